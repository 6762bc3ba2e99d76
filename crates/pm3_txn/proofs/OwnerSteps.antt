-- What the steps of the table make of a view, as a transaction that may hold its space needs it.
use Rattle.std.proofs.Common.{◌≡◌, ◌≢◌, ◌+◌, ◌==◌, ◌||◌, ◌∙◌, ◌⊎◌, inl, inr, ℕ, Bool, true, false, List, refl, sym, ap}
use Rattle.std.proofs.lemmas.Bool.{cases_eq, false≢true, eq-eqb, ne_eqb}
use Rattle.pm3_history.specs.Entry.{Done}
use Rattle.pm3_table.specs.declared.view.Told.{Told}
use Rattle.pm3_table.specs.declared.view.View.{View}
use Rattle.pm3_table.specs.Holds.{holds_of, spans_of, is_in}
use Rattle.pm3_table.specs.Ops.{took, gave}
use Rattle.pm3_table.specs.Telling.{NoneNames, IsSound}
use Rattle.pm3_table.specs.Words.{space_unit, turn_unit}
use Rattle.pm3_table.proofs.Put.{put_at, put_here, put_else}
use Rattle.pm3_txn.specs.OwnerLaws.{GoesFurther}
use Rattle.pm3_txn.specs.StepLaws.{TakesGoFurther, GivesGoFurther, DrawsAreAlike, SettlesSpread}

module _ (told : Told) (v : View) (u : ℕ) (between lost : List Done) (pages : List ℕ) (faults : ℕ) (free : holds_of v.holds u ≡ false)
    (apart : (x : ℕ) → holds_of v.holds x ≡ true → NoneNames told between x) (sound : IsSound told (took (turn_unit told.pages) v u between lost pages faults) lost) where
  abbrev w : View
  w = took (turn_unit told.pages) v u between lost pages faults

  other : (x : ℕ) → holds_of v.holds x ≡ true → x ≢ u
  other x held e = false≢true (sym free ∙ ap (holds_of v.holds) (sym e) ∙ held)

  further : GoesFurther told v w between
  further = record {
    seen = refl;
    lawful = sound.lawful;
    unnamed = apart;
    holds = λ x held. put_else (holds_of v.holds) u true x (other x held) ∙ held;
    spans = λ j p held. ap (λ (f : ℕ → Bool). f p) (put_else (spans_of v.spans) u (λ q. is_in q pages) (space_unit told.pages j) (other (space_unit told.pages j) held));
    apart = sound.apart;
    names = refl;
    new = sound.new_names;
  }

  took_one : (x : ℕ) → holds_of w.holds x ≡ true → (x ≡ u) ⊎ (holds_of v.holds x ≡ true)
  took_one x held = elim (cases_eq x u) [
    | inl e ↦ inl e
    | inr ne ↦ inr (sym (put_else (holds_of v.holds) u true x ne) ∙ held)
  ]

pub takes_go_further : TakesGoFurther
takes_go_further told v u between lost pages faults free apart sound = (
  further told v u between lost pages faults free apart sound,
  put_here (holds_of v.holds) u true,
  took_one told v u between lost pages faults free apart sound,
  λ p. ap (λ (f : ℕ → Bool). f p) (put_here (spans_of v.spans) u (λ q. is_in q pages)),
)

pub gives_go_further : GivesGoFurther
gives_go_further told v w u between free far back = (
  record {
    seen = far.seen;
    lawful = far.lawful;
    unnamed = far.unnamed;
    holds = λ x held. put_else (holds_of w.holds) u false x (λ e. false≢true (sym free ∙ ap (holds_of v.holds) (sym e) ∙ held)) ∙ far.holds x held;
    spans = far.spans;
    apart = λ j p is. (let only = far.apart j p (is.0, before (space_unit told.pages j) is.1, is.2) in record { bare = only.bare; kept = only.kept });
    names = far.names;
    new = far.new;
  },
  λ x held. elim (cases_eq x u) [
    | inl e ↦ absurd (false≢true (sym (put_at (holds_of w.holds) u false x e) ∙ held))
    | inr ne ↦ of x ne (back x (before x held))
  ],
)
  where
    before : (x : ℕ) → holds_of (gave w u).holds x ≡ true → holds_of w.holds x ≡ true
    before x held = elim (cases_eq x u) [
      | inl e ↦ absurd (false≢true (sym (put_at (holds_of w.holds) u false x e) ∙ held))
      | inr ne ↦ sym (put_else (holds_of w.holds) u false x ne) ∙ held
    ]

    of : (x : ℕ) → x ≢ u → (x ≡ u) ⊎ (holds_of v.holds x ≡ true) → holds_of v.holds x ≡ true
    of x ne (inl e) = absurd (ne e)
    of x ne (inr held) = held

or_second : (a b : Bool) → b ≡ true → (a || b) ≡ true
or_second true b is = refl
or_second false b is = is

or_first : (a b : Bool) → a ≡ true → (a || b) ≡ true
or_first a b is = ap (λ x. x || b) is

pub draws_are_alike : DrawsAreAlike
draws_are_alike v n = (
  record { seen = refl; holds = refl; steady = refl; names = λ m is. is },
  record { seen = refl; holds = refl; steady = refl; names = λ m is. is },
  record { seen = refl; holds = refl; steady = refl; names = λ m is. or_second (n == m) (is_in m v.names) is },
  or_first (n == n) (is_in n v.names) (eq-eqb n n refl),
)

pub settles_spread : SettlesSpread
settles_spread v page unit log = (
  record { seen = refl; holds = refl; steady = refl; names = λ m is. is },
  λ p. elim (cases_eq p page) [
    | inl e ↦ put_at (spans_of v.spans unit) page (unit + 1 == unit + 1) p e ∙ eq-eqb (unit + 1) (unit + 1) refl ∙ sym (or_first (p == page) (spans_of v.spans unit p) (eq-eqb p page e))
    | inr ne ↦ put_else (spans_of v.spans unit) page (unit + 1 == unit + 1) p ne ∙ ap (λ (b : Bool). b || spans_of v.spans unit p) (sym (ne_eqb p page ne))
  ],
)
