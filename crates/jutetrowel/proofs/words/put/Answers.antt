-- `put` leaves what stands before and behind the 16 words, as the library puts a part back.
use Rattle.std.proofs.Common.{rules, ◌≡◌, length, sym, ◌∙◌, arith}
use Rattle.std.proofs.lemmas.Slice.{put_mid-paste}
use Rattle.std.proofs.lemmas.List.Edits.{paste_all}
use Rattle.jutetrowel.proofs.words.put.Goals as goal

pub returns : goal.returns
returns c =
    let n : length c.args.set ≡ 16 = search rules in
    put_mid-paste c.args.at _ c.args.out.now _ c.args.set 16 c.copy_from_slice.ensures.after (omega arith) (sym n)
    ∙ paste_all c.args.out.now c.args.at c.args.set 16 (sym n)
