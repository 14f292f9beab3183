-- `geotim_of` is `geotim_of`, by whether the hour is local, and by what its calls ensure.
use Rattle.std.proofs.Common.{Bool, sym, ap}
use Rattle.maps.specs.Clocks.{geotim_of}
use Rattle.maps.proofs.ionosphere.clocks.geotim_of.Goals as goal

pub returns-then-local : goal.returns-then-local
unfolding geotim_of
returns-then-local c =
    let a = c.args in
    rw (
      c.time_at.ensures,
      c.time_at-gmt.ensures,
      c.nearest_u32_to_f32-ckc.ensures,
    )
    (sym (ap (λ (b : Bool). geotim_of a.jt b a.tlong a.rlong) c.if-local.true))

pub returns : goal.returns
unfolding geotim_of
returns c =
    let a = c.args in
    rw (
      c.time_at-3.ensures,
      c.time_at-2.ensures,
      c.nearest_u32_to_f32-ckc.ensures,
    )
    (sym (ap (λ (b : Bool). geotim_of a.jt b a.tlong a.rlong) c.if-local.false))
