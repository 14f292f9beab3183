-- A word that is finite is there.
use Rattle.std.proofs.Common.{◌∙◌, rules}
use Rattle.base.proofs.layout.FirstWords.{told_number}
use Rattle.maps.proofs.ionosphere.layers.number_at.Goals as goal

pub unwrap-requires : goal.unwrap-requires
unwrap-requires c = let e = c.table_word.ensures ∙ told_number _ _ c.requires in search rules

pub returns : goal.returns
returns c = let e = c.table_word.ensures ∙ told_number _ _ c.requires in search rules
