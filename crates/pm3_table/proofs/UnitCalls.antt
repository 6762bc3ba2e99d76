-- What steps on units ask, over a pass's fields.
use Rattle.std.proofs.Common.{◌≡◌, ◌≢◌, ℕ, ◌+◌, ◌<◌, ◌≤◌, true, false, List, [], ◌∷◌, ◌++◌, get_or, set, eqb, Option, None, Some, refl, sym, ap, ◌∙◌, subst, arith}
use mathlib.Core.Option as maybe
use mathlib.Core.Option.{none, some}
use prog.Atomic.{either}
use lib.ListN.{get_elem?}
use Rattle.atomic_table.specs.Table as table
use Rattle.atomic_table.specs.Table.{State, Me, Step, step, Act, keeps, takes, gives, stepped, Valid, homes_after, carried_after, rest, Allows}
use Rattle.atomic_table.proofs.Lists.{exchanged}
use Rattle.pm3_history.specs.Entry.{Done}
use Rattle.pm3_table.specs.declared.view.Told.{Told}
use Rattle.pm3_table.specs.declared.view.View.{View}
use Rattle.pm3_table.specs.Crew.{Lives}
use Rattle.pm3_table.specs.Deeds.{marks_of}
use Rattle.pm3_table.specs.Holds.{holds_of, spans_of, is_in}
use Rattle.pm3_table.specs.Carried.{Carries}
use Rattle.pm3_table.specs.Ops.{refused, took, gave, turned}
use Rattle.pm3_table.specs.Telling.{names, Good, spans_in, counted_in, is_steady, MayJoin}
use Rattle.pm3_table.specs.Words.{unit_at, turn_unit}
use Rattle.pm3_table.specs.Rule.{Ruled}
use Rattle.pm3_table.specs.Plays as play
use Rattle.pm3_table.specs.Plays.{Taken}
use Rattle.pm3_table.proofs.RowSteps.{here_is, here_lives, holds_unit, refuses_unit}
use Rattle.pm3_table.proofs.UnitSteps.{steady_is, word_free, takes_unit, gives_unit, sound_now, apart_now}
use Rattle.pm3_table.proofs.TurnSteps.{gives_turn}
use Rattle.pm3_table.proofs.DrawSteps.{stays_same}
use Rattle.pm3_table.proofs.Carrying.{reach_act, reach_is}

module _ {V : Type 0} (stands : Told → List Done → List Done → ℕ → V → Type 0) (spans : V → List ℕ) (counted : V → ℕ) (told : Told)
    (frame : (lost h : List Done) (e : Done) (u : ℕ) (x : V) → names told e u ≡ false → stands told lost h u x → stands told lost (h ++ e ∷ []) u x)
    (alike : (lost more h : List Done) (u : ℕ) (x : V) → u ≢ turn_unit told.pages → stands told lost h u x → stands told more h u x)
    (slots id : ℕ) (me : Me (Option V) View) (live : me.0.live ≡ true) where
  abbrev Rule : State (Option V) View → Type 0
  Rule = Ruled stands spans counted told

  abbrev turn : ℕ
  turn = turn_unit told.pages

  -- a slot of a held unit is out
  slot_out : (s : State (Option V) View) (r : Rule s) → Lives s.views id me.0 → (u : ℕ) → holds_of me.0.holds u ≡ true → get_elem? s.homes u ≡ some none
  slot_out s r seat u holds =
      let mine = holds_unit stands spans counted told s r id me.0 seat u holds in
      let taken : r.holder u ≢ 0 = λ z. omega (arith, z, mine) in
      r.units.out u (r.units.held u taken).0 taken

  pub reach_call : (at aim u : ℕ) → at ≡ unit_at u → aim ≡ u → holds_of me.0.holds u ≡ true → Carries me.0.holds me.1
      → Allows Rule slots id me at (λ n. n) (play.reaches aim (step slots at 0 0 none) me)
  reach_call at aim u is aimed holds carries = rw (is, aimed) (λ s r deep seat fits.
      let reached = reach_is me.1 u carries.empty carries.once (carries.same u ∙ holds) s.homes (λ k h. slot_out s r (seat, live) k (sym (carries.same k) ∙ h)) in (
        me.0,
        reach_act me.1 u,
        reached.valid,
        subst (λ (hs : List (maybe.Option (Option V))). Rule record { words = set s.words (unit_at u) (get_or s.words (unit_at u) 0); homes = hs; views = set s.views id me.0 }) (sym reached.homes) (stays_same stands spans counted told s r id me.0 (seat, live) (unit_at u)),
        ap (λ (c : List (ℕ × Option V)). (me.0, c)) reached.carried,
      ))

  pub give_call : (at aim u w : ℕ) (x : Option V) → at ≡ unit_at u → aim ≡ u → w ≡ 0 → me.1 ≡ (u, x) ∷ rest me.1 → u < told.pages + 32 → holds_of me.0.holds u ≡ true
      → ((p : ℕ) → told.pages ≤ u → is_in p (spans_in spans x) ≡ spans_of me.0.spans u p)
      → ((p : ℕ) → told.pages ≤ u → spans_of me.0.spans u p ≡ true → marks_of me.0.log p ≡ false)
      → Good stands told me.0.lost me.0.seen u x
      → Allows Rule slots id me at (λ _. w) (λ _. play.gives aim (step slots at w 0 none) me w)
  give_call at aim u w x is aimed zero_is top low holds fits bare good = rw (is, aimed, zero_is) (λ s r deep seat fits_word.
      let away : u ≢ turn = λ e. omega (arith, e, low) in
      let good_now : Good stands told r.lost me.0.seen u x = good_other me.0.lost r.lost me.0.seen u x away good in (
        gave me.0 u,
        gives,
        tt,
        subst (λ (c : List (ℕ × Option V)). Rule record { words = set s.words (unit_at u) 0; homes = table.put_back s.homes c; views = set s.views id (gave me.0 u) }) (sym top)
            (gives_unit stands spans counted told frame s r id me.0 (seat, live) u x low holds fits bare good_now),
        refl,
      ))
    where
      good_other : (a b h : List Done) (u : ℕ) (x : Option V) → u ≢ turn → Good stands told a h u x → Good stands told b h u x
      good_other a b h u None o good = good
      good_other a b h u (Some y) o good = alike a b h u y o good

  pub turn_call : (at aim w : ℕ) (x : Option V) (aim_more aim_failed more failed : List Done) → at ≡ unit_at turn → aim ≡ turn → w ≡ 0 → aim_more ≡ more → aim_failed ≡ failed
      → me.1 ≡ (turn, x) ∷ rest me.1 → holds_of me.0.holds turn ≡ true
      → Good stands told (me.0.lost ++ failed) (me.0.seen ++ more) turn x → me.0.faults ≤ counted_in counted x → MayJoin told me.0 more failed
      → Allows Rule slots id me at (λ _. w) (λ _. play.turns counted aim aim_more aim_failed (step slots at w 0 none) me w)
  turn_call at aim w x aim_more aim_failed more failed is aimed zero_is more_is failed_is top holds good heard may = rw (is, aimed, zero_is, more_is, failed_is) (λ s r deep seat fits. (
    turned turn me.0 more failed (counted_in counted x),
    gives,
    tt,
    subst (λ (c : List (ℕ × Option V)). Rule record { words = set s.words (unit_at turn) 0; homes = table.put_back s.homes c; views = set s.views id (turned turn me.0 more failed (counted_in counted x)) }) (sym top)
        (gives_turn stands spans counted told frame alike s r id me.0 (seat, live) x more failed holds good heard may),
    λ y top_y. let same : x ≡ y = first_is x y (rest me.1) (sym top ∙ top_y) in ap (λ (z : Option V). (turned turn me.0 more failed (counted_in counted z), rest me.1)) same,
  ))
    where
      first_is : (x y : Option V) (l : List (ℕ × Option V)) → ((turn, x) ∷ l) ≡ ((turn, y) ∷ l) → x ≡ y
      first_is x y l e = ap (λ (z : List (ℕ × Option V)). top_of x z) e
        where
          top_of : Option V → List (ℕ × Option V) → Option V
          top_of d [] = d
          top_of d (z ∷ zs) = z.1

  pub take_call : (at aim u w : ℕ) (aim_told : Told) → at ≡ unit_at u → aim ≡ u → aim_told ≡ told → w ≡ me.0.row + 1 → u < told.pages + 33 → (u < told.pages → is_steady told me.0 u ≡ true)
      → Allows Rule slots id me at (λ n. either (eqb n 0) w n) (play.takes stands spans counted aim_told aim (step slots at 0 w none) me)
  take_call at aim u w aim_told is aimed aimed_told word low steady = rw (is, aimed, aimed_told, word) (λ s r deep seat fits.
      let n : ℕ = get_or s.words (unit_at u) 0 in
      let here = here_is stands spans counted told s r id me.0 (seat, live) in
      let lives = here_lives stands spans counted told s r id me.0 (seat, live) in
      let found : n ≡ r.holder u = word_free stands spans counted told frame s r id me.0 (seat, live) u low (λ below. (steady_is stands spans counted told frame s r id me.0 (seat, live) u (steady below)).1) in
      exchanged n 0 (me.0.row + 1) (λ x. (v : View) × (a : Act (Option V)) × Valid s.homes me.1 a × Rule (stepped s (unit_at u) x id me.1 v a) × play.takes stands spans counted told u (step slots (unit_at u) 0 (me.0.row + 1) none) me n (v, carried_after me.1 a))
      (λ zero_is.
      let free : r.holder u ≡ 0 = sym found ∙ zero_is in
      let home = r.units.home u (omega (arith, low)) free in
      let know = r.units.known me.0.row lives in
      let grown : r.history ≡ me.0.seen ++ know.after = know.is ∙ ap (λ (y : View). y.seen ++ know.after) here in
      let x : Option V = home.0 in
      let new : View = took turn me.0 u know.after r.lost (spans_in spans x) (counted_in counted x) in (
        new,
        takes u x,
        home.1,
        takes_unit stands spans counted told frame s r id me.0 (seat, live) u x know.after low free steady home.1 grown,
        (
          (λ o. absurd (o zero_is)),
          λ _. (
            x,
            record {
              between = know.after;
              lost = r.lost;
              view = refl;
              apart = λ i holds. know.apart i (holds_unit stands spans counted told s r id me.0 (seat, live) i holds);
              good = subst (λ (h : List Done). Good stands told r.lost h u x) grown home.2;
              sound = sound_now stands spans counted told frame s r id me.0 (seat, live) new refl (sym grown) refl refl refl
                  (apart_now stands spans counted told frame s r id me.0 (seat, live) u x know.after home.1 grown);
              heard = λ same. subst (λ (y : View). y.faults ≤ counted_in counted x) here (r.units.heard x (ap (get_elem? s.homes) (sym same) ∙ home.1) me.0.row lives);
            },
            refl,
          ),
        ),
      ))
      (λ taken. (refused me.0 u n, keeps, tt, refuses_unit stands spans counted told s r id me.0 (seat, live) u (unit_at u), ((λ _. refl), λ z. absurd (taken z)))))
