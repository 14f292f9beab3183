-- `versy` is `gammas_of`: two triples of maps over the same waves, the sine being the dip's, and for
-- the E map the latitude's.
use Rattle.std.proofs.Common.{◌≡◌, ℕ, List, refl, ap, ◌∙◌, Float}
use Rattle.base.specs.Elementary.{sin_of}
use Rattle.maps.specs.declared.ionosphere.versy.Gammas.{Gammas}
use Rattle.maps.specs.Versy.{series_of, versy_of, three_at, gammas_of}
use Rattle.maps.proofs.ionosphere.versy.HourMaps.versy.Goals as goal

abbrev both : Float × Float × Float → Float × Float × Float → Gammas
both es fe = record { g1 = es.0; g2 = es.1; g3 = es.2; g4 = fe.0; g5 = fe.1; g6 = fe.2 }

six : (ab : List Float) (index : List ℕ) (dip lat clg gob : Float) →
    both (three_at ab index 0 (sin_of dip) (sin_of dip) gob clg) (three_at ab index 3 (sin_of dip) (sin_of lat) gob clg) ≡ gammas_of ab index dip lat clg gob
unfolding gammas_of versy_of three_at series_of
six ab index dip lat clg gob = refl

six_of : (ab : List Float) (index : List ℕ) (dip lat clg gob : Float) {sx sl : Float} {es fe : Float × Float × Float} → sx ≡ sin_of dip → sl ≡ sin_of lat →
    es ≡ three_at ab index 0 sx sx gob clg → fe ≡ three_at ab index 3 sx sl gob clg → both es fe ≡ gammas_of ab index dip lat clg gob
six_of ab index dip lat clg gob {sx} {sl} {es} {fe} p q e f =
    (λ t. both (e t) (f t))
    ∙ (λ t. both (three_at ab index 0 (p t) (p t) gob clg) (three_at ab index 3 (p t) (q t) gob clg))
    ∙ six ab index dip lat clg gob

pub returns : goal.returns
returns c =
    let a = c.args in
    let w = c.waves-w.ensures in
    six_of a.self.ab.now a.self.index.words.now a.dip a.lat a.clg a.gob
    (c.sin64-sx.ensures ∙ ap sin_of c.widen.ensures)
    (c.sin64-sl.ensures ∙ ap sin_of c.widen-2.ensures)
    (c.three-g1.ensures a.gob a.clg w)
    (c.three-g4.ensures a.gob a.clg w)
