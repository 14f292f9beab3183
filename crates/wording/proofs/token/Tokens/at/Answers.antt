-- `at` is `token_at`: what stands at the place, `End` past the last.
use Rattle.std.proofs.Common.{rules}
use Rattle.std.proofs.lemmas.Option.{unwrap_or-slice_get}
use Rattle.wording.specs.Token.{token_at}
use Rattle.wording.proofs.token.Tokens.at.Goals as goal

pub returns : goal.returns
unfolding token_at
returns c = let h = c.get.ensures.lookup in search (rules, unwrap_or-slice_get)
