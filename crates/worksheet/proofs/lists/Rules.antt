-- The rules of the desks keep the law of each role, and so demand 3 holds. Assumes nothing.
use Rattle.std.proofs.Common.{None, Ok, Some, ℕ, Bool, true, false, cond, true≢false, List, [], ◌∷◌, ◌≡◌, refl, sym, ap, ap₂, ◌∙◌, eqb, length, Float, eqb-true}
use Rattle.maps.specs.declared.inputs.Inputs.{Inputs}
use Rattle.maps.specs.Figures.{sheet_path, figures_of, points_or}
use Rattle.worksheet.specs.declared.inputs.Edit.{Edit}
use Rattle.worksheet.specs.declared.desks.Draft.{Draft}
use Rattle.worksheet.specs.declared.desks.Draft.TheVariants.{Closed, Fresh}
use Rattle.worksheet.specs.declared.desks.Worksheet.{Worksheet}
use Rattle.base.specs.Refusal.{◌then◌, written_over}
use Rattle.worksheet.specs.Inputs.{inputs_check, edited}
use Rattle.worksheet.specs.Desks.{draft_at, with_draft, inputs_of, moved_to, desk_check, draft_check, fresh_sheet, open_of, edited_draft}
use Rattle.worksheet.specs.Showing.{Source, inputs_shown, asked_check, drawn_check, judged_check, show_check, show_of, show_buffer}
use Rattle.worksheet.specs.Journal.{Call, begin, commit, cancel, change, take_back, show, shown, beginning, ending, settling, belonging, returning, showing, role_of, accepted, Step, step, Demand3}
use Rattle.worksheet.specs.InForce.{changed}
use Rattle.worksheet.proofs.drafts.Drafts.{at_rest, FreshAt, alone, closed_not_fresh, fresh_same, rest_draft, rest_with, inputs_with, earlier_with, with_with, with_fresh, with_draft_law, with_other, moved_not_fresh, moved_rest, settled_not_fresh, settled_rest}
use Rattle.worksheet.proofs.drafts.Effects.{accepting, edited_fresh, refused_unmoved, begun, begin_leaves, was_changed, change_leaves, change_fresh, committed, commit_leaves, cancel_leaves, taken_back, take_back_leaves}
use Rattle.worksheet.proofs.lists.Replay.{Local, sheet_of, Like, Law, OwnLaw, alike}

-- desk n's draft became d
moved_alone : (n : ℕ) (d : Draft) (w v : Worksheet) → v ≡ with_draft n d w → Local n w v
moved_alone n d w v h = record {
  at_rest = ap at_rest h ∙ rest_with n d w;
  others = λ m x e f. sym (with_other n m d e w) ∙ sym (ap (draft_at m) h) ∙ f;
}

-- the worksheet is no desk's
sheet_draft : (n : ℕ) (v : Worksheet) → eqb n 0 ≡ true → draft_at n v ≡ Closed
unfolding draft_at
sheet_draft n v e = ap (λ (k : ℕ). draft_at k v) (eqb-true n 0 e)

module _ (source : Source) where
  abbrev left : Call → Worksheet → Worksheet
  left c w = sheet_of source c w

  -- a call that is accepted on v and on w
  like : (c : Call) (w v u t : Worksheet) → step source c v ≡ accepting u → step source c w ≡ accepting t → Like source c w v u
  like c w v u t p q = p ∙ sym (ap (λ (s : Step). record { answer = s.answer; sheet = u }) q)

  begin_law : (n : ℕ) (w : Worksheet) → Law source (beginning n) (begin n) w
  begin_law n w = record {
    refused = refused_unmoved source (begin n) w;
    done = λ a.
        let b = begun source n w a in
        let d = Fresh w.inputs in
        let is = begin_leaves source n w b in
        let at = ap (λ (s : Step). s.sheet) is in
        record {
          local = moved_alone n d w (left (begin n) w) at;
          copied = λ x h. sym (fresh_same (with_fresh n d w x (sym (ap (draft_at n) at) ∙ h)));
          alike = λ x h. like (begin n) w (at_rest w) (alone n x w) (with_draft n d w)
              (begin_leaves source n (at_rest w) (record { desk = b.desk; closed = rest_draft n w })
              ∙ ap (λ (z : Draft). accepting (with_draft n z (at_rest w))) (with_fresh n d w x (sym (ap (draft_at n) at) ∙ h)))
              is;
        };
  }

  own_change : (n : ℕ) (e : Edit) (w : Worksheet) → accepted (step source (change n e) w).answer ≡ true → OwnLaw source n (e ∷ []) (change n e) w
  unfolding changed
  own_change n e w a =
      let b = was_changed source n e w a in
      let d = edited_draft e (draft_at n w) in
      let is = change_leaves source n e w b in
      let at = ap (λ (s : Step). s.sheet) is in
      record {
        local = moved_alone n d w (left (change n e) w) at;
        alike = λ x h.
            let f = edited_fresh e (draft_at n w) x (with_fresh n d w x (sym (ap (draft_at n) at) ∙ h)) in
            let y = f.0 in (
              y,
              f.1,
              f.2,
              like (change n e) w (alone n y w) (alone n x w) (with_draft n d w)
                  (change_fresh source n e (alone n y w) y b.desk b.good (with_draft_law n w (at_rest w) (Fresh y) y f.1)
                  ∙ ap accepting (with_with n (Fresh (edited e y)) (Fresh y) (at_rest w))
                  ∙ ap (λ (z : Inputs). accepting (alone n z w)) (sym f.2))
                  is,
            );
      }

  change_law : (n : ℕ) (e : Edit) (w : Worksheet) → Law source (belonging n false (e ∷ [])) (change n e) w
  change_law n e w = record { refused = refused_unmoved source (change n e) w; done = own_change n e w }

  cancel_law : (n : ℕ) (w : Worksheet) → Law source (ending n) (cancel n) w
  cancel_law n w = record {
    refused = refused_unmoved source (cancel n) w;
    done = λ a.
        let at = ap (λ (s : Step). s.sheet) (cancel_leaves source n w a) in
        record {
          local = moved_alone n Closed w (left (cancel n) w) at;
          none = λ x h. closed_not_fresh refl (with_fresh n Closed w x (sym (ap (draft_at n) at) ∙ h));
        };
  }

  commit_law : (n : ℕ) (w : Worksheet) → Law source (settling n) (commit n) w
  unfolding moved_to
  commit_law n w = record {
    refused = refused_unmoved source (commit n) w;
    done = λ a.
        let b = committed source n w a in
        let x = b.draft in
        let moved = moved_to x (Some w.inputs) w in
        let is = commit_leaves source n w x b.desk b.fresh in
        let at = ap (λ (s : Step). s.sheet) is in
        let none : (m : ℕ) (y : Inputs) → FreshAt m y (left (commit n) w) → ⊥ = λ m y h. settled_not_fresh n m x (Some w.inputs) w y (sym (ap (draft_at m) at) ∙ h) in
        record {
          draft = x;
          fresh = b.fresh;
          inputs = ap (λ (u : Worksheet). u.inputs) at ∙ inputs_with n Closed moved;
          earlier = ap (λ (u : Worksheet). u.earlier) at ∙ earlier_with n Closed moved;
          alike = like (commit n) w (alone n x w) (at_rest (left (commit n) w)) (with_draft n Closed moved)
              (commit_leaves source n (alone n x w) x b.desk (with_draft_law n w (at_rest w) (Fresh x) x b.fresh)
              ∙ ap (λ (i : Inputs). accepting (with_draft n Closed (moved_to x (Some i) (alone n x w)))) (inputs_with n (Fresh x) (at_rest w))
              ∙ ap accepting (settled_rest n x x (Some w.inputs) w ∙ sym (ap at_rest at)))
              is;
          settled = λ m y h. absurd (none m y h);
          none = none;
        };
  }

  take_back_law : (w : Worksheet) → Law source returning take_back w
  unfolding moved_to
  take_back_law w = record {
    refused = refused_unmoved source take_back w;
    done = λ a.
        let b = taken_back source w a in
        let is = take_back_leaves source w b.0 b.1 in
        let at = ap (λ (s : Step). s.sheet) is in
        let none : (m : ℕ) (x : Inputs) → FreshAt m x (left take_back w) → ⊥ = λ m x h. moved_not_fresh m b.0 None w x (sym (ap (draft_at m) at) ∙ h) in
        record {
          set = b.0;
          was = b.1;
          inputs = ap (λ (u : Worksheet). u.inputs) at;
          earlier = ap (λ (u : Worksheet). u.earlier) at;
          alike = like take_back w (at_rest w) (at_rest (left take_back w)) (moved_to b.0 None w)
              (take_back_leaves source (at_rest w) b.0 b.1 ∙ ap accepting (moved_rest b.0 None w ∙ sym (ap at_rest at)))
              is;
          settled = λ m x h. absurd (none m x h);
          none = none;
        };
  }

  -- a showing goes by the worksheet's inputs and by the draft asked for
  show_same : (n : ℕ) (lent : List Float) (v w : Worksheet) → v.inputs ≡ w.inputs → draft_at n v ≡ draft_at n w → Like source (show n lent) w v v
  unfolding step show_of show_buffer show_check judged_check asked_check inputs_shown
  show_same n lent v w p q = ap₂ (λ (i : Inputs) (d : Draft).
      let j = cond (eqb n 0) i (inputs_of d i) in
      let check = (cond (eqb n 0) (Ok tt) (desk_check n then draft_check d) then inputs_check j) then drawn_check (source j) (length lent) in
      record {
        answer = shown (points_or check (sheet_path j).count) (written_over check (figures_of (source j).f2 (source j).file j) lent);
        sheet = v;
      }) p q

  show_law : (n : ℕ) (lent : List Float) (w : Worksheet) (b : Bool) → eqb n 0 ≡ b → Law source (cond b showing (belonging n true [])) (show n lent) w
  unfolding step changed
  show_law n lent w true e = record { same = refl; alike = show_same n lent (at_rest w) w refl (sheet_draft n (at_rest w) e ∙ sym (sheet_draft n w e)) }
  show_law n lent w false e = record {
    refused = λ h. absurd (true≢false h);
    done = λ h. record {
      local = record { at_rest = refl; others = λ m x q f. f };
      alike = λ x f. (
        x,
        f,
        refl,
        show_same n lent (alone n x w) w (inputs_with n (Fresh x) (at_rest w)) (with_draft_law n w (at_rest w) (Fresh x) x f ∙ sym f),
      );
    };
  }

  pub law : (c : Call) (w : Worksheet) → Law source (role_of c) c w
  law (begin n) w = begin_law n w
  law (change n e) w = change_law n e w
  law (cancel n) w = cancel_law n w
  law (commit n) w = commit_law n w
  law take_back w = take_back_law w
  law (show n lent) w = show_law n lent w (eqb n 0) refl

  -- DEMAND 3 over any source of files: for every worksheet whose desks are closed, and every list
  -- of calls
  pub demand_3_lent : (w : Worksheet) → at_rest w ≡ w → (cs : List Call) → Demand3 source w cs
  demand_3_lent w h cs = alike source law w h cs

-- DEMAND 3: for every source of files, every worksheet that open gives, and every list of calls
pub demand_3 : (source : Source) (i : Inputs) → (open_of i).answer ≡ Ok tt → (cs : List Call) → Demand3 source (open_of i).sheet cs
unfolding open_of fresh_sheet
demand_3 source i h cs = demand_3_lent source (open_of i).sheet refl cs
