-- `name` has the letters of the word's name, word by word.
use Rattle.std.proofs.Common.{◌≡◌, sym, ap}
use Rattle.wording.specs.declared.token.Word.{Word}
use Rattle.wording.specs.Token.{name_of, ascii}
use Rattle.wording.proofs.token.Word.name.Goals as goal

named : {x y : Word} → x ≡ y → ascii (name_of y) ≡ ascii (name_of x)
named e = sym (ap (λ x. ascii (name_of x)) e)

pub returns-in-Open : goal.returns-in-Open
returns-in-Open c = named c.in-Open.is

pub returns-in-Month : goal.returns-in-Month
returns-in-Month c = named c.in-Month.is

pub returns-in-Sunspot : goal.returns-in-Sunspot
returns-in-Sunspot c = named c.in-Sunspot.is

pub returns-in-Hour : goal.returns-in-Hour
returns-in-Hour c = named c.in-Hour.is

pub returns-in-From : goal.returns-in-From
returns-in-From c = named c.in-From.is

pub returns-in-To : goal.returns-in-To
returns-in-To c = named c.in-To.is

pub returns-in-Long : goal.returns-in-Long
returns-in-Long c = named c.in-Long.is

pub returns-in-Factors : goal.returns-in-Factors
returns-in-Factors c = named c.in-Factors.is

pub returns-in-Pole : goal.returns-in-Pole
returns-in-Pole c = named c.in-Pole.is

pub returns-in-Model : goal.returns-in-Model
returns-in-Model c = named c.in-Model.is

pub returns-in-Ccir : goal.returns-in-Ccir
returns-in-Ccir c = named c.in-Ccir.is

pub returns-in-Ursi : goal.returns-in-Ursi
returns-in-Ursi c = named c.in-Ursi.is

pub returns-in-Begin : goal.returns-in-Begin
returns-in-Begin c = named c.in-Begin.is

pub returns-in-Path : goal.returns-in-Path
returns-in-Path c = named c.in-Path.is

pub returns-in-Commit : goal.returns-in-Commit
returns-in-Commit c = named c.in-Commit.is

pub returns-in-Cancel : goal.returns-in-Cancel
returns-in-Cancel c = named c.in-Cancel.is

pub returns-in-Show : goal.returns-in-Show
returns-in-Show c = named c.in-Show.is

pub returns-in-Take : goal.returns-in-Take
returns-in-Take c = named c.in-Take.is

pub returns-in-Back : goal.returns-in-Back
returns-in-Back c = named c.in-Back.is

pub returns-in-Another : goal.returns-in-Another
returns-in-Another c = named c.in-Another.is
