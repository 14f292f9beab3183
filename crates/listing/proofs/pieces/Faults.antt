-- No name of a line's word is longer than seven letters. Assumes nothing.
use Rattle.std.proofs.Common.{◌≤◌, length, arith}
use Rattle.wording.specs.declared.token.Word.{Word as AWord}
use Rattle.wording.specs.declared.token.Word.TheVariants as word
use Rattle.wording.specs.Token.{ascii, name_of}

pub name_most : (w : AWord) → length (ascii (name_of w)) ≤ 7
name_most word.Open = omega arith
name_most word.Month = omega arith
name_most word.Sunspot = omega arith
name_most word.Hour = omega arith
name_most word.From = omega arith
name_most word.To = omega arith
name_most word.Long = omega arith
name_most word.Factors = omega arith
name_most word.Pole = omega arith
name_most word.Model = omega arith
name_most word.Ccir = omega arith
name_most word.Ursi = omega arith
name_most word.Begin = omega arith
name_most word.Path = omega arith
name_most word.Commit = omega arith
name_most word.Cancel = omega arith
name_most word.Show = omega arith
name_most word.Take = omega arith
name_most word.Back = omega arith
name_most (word.Another n) = omega arith
