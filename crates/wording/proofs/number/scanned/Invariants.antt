-- `scanned` is `scanned`: what is read and the bytes that are left make what the whole makes.
use Rattle.std.proofs.Common.{◌≡◌, drop}
use Rattle.wording.specs.Number.{unread, scanned}
use Rattle.wording.proofs.number.scanned.Given as goal

abbrev pub invariant-loop-c : goal.invariant-loop-c
invariant-loop-c l = scanned unread l.word ≡ scanned l.s (drop l.c-index l.word)
