-- Words that are renamed one after another.
use Rattle.std.proofs.Common.{◌≡◌, ◌<◌, ◌≤◌, ◌+◌, ◌∙◌, ◌⊎◌, inl, inr, ℕ, List, length, get_or, set, Option, refl, sym, ap, subst, arith, length-set, get_or-set_same, get_or-set_other}
use Rattle.std.proofs.lemmas.Bool.{cases_eq, cases_lt}
use Rattle.pm3_types.specs.Fields.{Fields}
use Rattle.pm3_types.specs.Layout.{Sheet, with_word}
use Rattle.pm3_types.specs.PageForm.{IsReferenceIn, map_at, tail_at}
use Rattle.pm3_copy.specs.Renaming.{IsRenamed, IsPlaceBelow, IsPlaceOf}

pub renamed_none : (Places : ℕ → Type 0) (to : ℕ → ℕ) (sheet : Sheet) → ((i : ℕ) → Places i → ⊥) → IsRenamed Places to sheet sheet
renamed_none Places to sheet never = record { starts = refl; words = refl; places = λ i is. absurd (never i is); others = λ i away. refl }

-- in some places, and then in others
pub renamed_then : (P Q R : ℕ → Type 0) (to : ℕ → ℕ) (a b c : Sheet) → IsRenamed P to a b → IsRenamed Q to b c → ((i : ℕ) → P i → Q i → ⊥)
    → ((i : ℕ) → R i → P i ⊎ Q i) → ((i : ℕ) → P i → R i) → ((i : ℕ) → Q i → R i) → IsRenamed R to a c
renamed_then P Q R to a b c first second apart parts p q = record {
  starts = second.starts ∙ first.starts;
  words = second.words ∙ first.words;
  places = λ i is. elim (parts i is) [
    | inl one ↦ second.others i (apart i one) ∙ first.places i one
    | inr two ↦ second.places i two ∙ ap to (first.others i (λ one. apart i one two))
  ];
  others = λ i away. second.others i (λ two. away (q i two)) ∙ first.others i (λ one. away (p i one));
}

pub renamed_as : (P Q : ℕ → Type 0) (to : ℕ → ℕ) (a b : Sheet) → IsRenamed P to a b → ((i : ℕ) → Q i → P i) → ((i : ℕ) → P i → Q i) → IsRenamed Q to a b
renamed_as P Q to a b is back on = record { starts = is.starts; words = is.words; places = λ i at. is.places i (back i at); others = λ i away. is.others i (λ at. away (on i at)) }

-- one word
pub renamed_word : (to : ℕ → ℕ) (sheet now : Sheet) (at : ℕ) → at < length sheet.words → now ≡ with_word sheet at (to (get_or sheet.words at 0)) → IsRenamed (λ i. i ≡ at) to sheet now
renamed_word to sheet now at low is = subst (IsRenamed (λ i. i ≡ at) to sheet) (sym is) (record {
  starts = refl;
  words = length-set sheet.words at (to (get_or sheet.words at 0));
  places = λ i e. ap (λ n. get_or (set sheet.words at (to (get_or sheet.words at 0))) n 0) e ∙ get_or-set_same sheet.words at (to (get_or sheet.words at 0)) 0 low ∙ sym (ap (λ n. to (get_or sheet.words n 0)) e);
  others = λ i away. get_or-set_other sheet.words at i (to (get_or sheet.words at 0)) 0 away;
})

-- the places of an object, one after another
module _ (o : Option Fields) (len s : ℕ) (to : ℕ → ℕ) where
  pub places_none : (sheet : Sheet) → IsRenamed (IsPlaceBelow o len s 0) to sheet sheet
  places_none sheet = renamed_none (IsPlaceBelow o len s 0) to sheet (λ i p. omega (arith, p.low))

  pub places_more : (n place : ℕ) (sheet mid now : Sheet) → n ≤ place → IsReferenceIn o len place → ((k : ℕ) → n ≤ k → k < place → IsReferenceIn o len k → ⊥)
      → IsRenamed (IsPlaceBelow o len s n) to sheet mid → IsRenamed (λ i. i ≡ s + 2 + place) to mid now → IsRenamed (IsPlaceBelow o len s (place + 1)) to sheet now
  places_more n place sheet mid now from is between first second =
      renamed_then (IsPlaceBelow o len s n) (λ i. i ≡ s + 2 + place) (IsPlaceBelow o len s (place + 1)) to sheet mid now first second
      (λ i p e. omega (arith, p.low, p.is, e, from)) parts
      (λ i p. record { place = p.place; low = omega (arith, p.low, from); reference = p.reference; is = p.is })
      (λ i e. record { place = place; low = omega arith; reference = is; is = e })
    where
      parts : (i : ℕ) → IsPlaceBelow o len s (place + 1) i → IsPlaceBelow o len s n i ⊎ (i ≡ s + 2 + place)
      parts i p = elim (cases_lt p.place n) [
        | inl before ↦ inl (record { place = p.place; low = before; reference = p.reference; is = p.is })
        | inr behind ↦ elim (cases_eq p.place place) [
          | inl same ↦ inr (p.is ∙ ap (λ k. s + 2 + k) same)
          | inr apart ↦ absurd (between p.place behind (omega (arith, p.low)) p.reference)
        ]
      ]

pub places_all : (catalog : List Fields) (sheet now : Sheet) (s n : ℕ) (o : Option Fields) (len : ℕ) (to : ℕ → ℕ) → o ≡ map_at catalog sheet s → len ≡ tail_at sheet s → ((k : ℕ) → n ≤ k → IsReferenceIn o len k → ⊥)
    → IsRenamed (IsPlaceBelow o len s n) to sheet now → IsRenamed (IsPlaceOf catalog sheet s) to sheet now
places_all catalog sheet now s n o len to map_is len_is past is = renamed_as (IsPlaceBelow o len s n) (IsPlaceOf catalog sheet s) to sheet now is back on
  where
    to_o : (k : ℕ) → IsReferenceIn (map_at catalog sheet s) (tail_at sheet s) k → IsReferenceIn o len k
    to_o k item = (let P : ℕ → Type 0 = λ l. IsReferenceIn (map_at catalog sheet s) l k in let Q : Option Fields → Type 0 = λ m. IsReferenceIn m len k in subst Q (sym map_is) (subst P (sym len_is) item))

    from_o : (k : ℕ) → IsReferenceIn o len k → IsReferenceIn (map_at catalog sheet s) (tail_at sheet s) k
    from_o k item = (let P : ℕ → Type 0 = λ l. IsReferenceIn (map_at catalog sheet s) l k in let Q : Option Fields → Type 0 = λ m. IsReferenceIn m len k in subst P len_is (subst Q map_is item))

    low : (k : ℕ) → IsReferenceIn o len k → k < n
    low k item = elim (cases_lt k n) [ inl before ↦ before | inr behind ↦ absurd (past k behind item) ]

    back : (i : ℕ) → IsPlaceOf catalog sheet s i → IsPlaceBelow o len s n i
    back i p = record { place = p.place; low = low p.place (to_o p.place p.reference); reference = to_o p.place p.reference; is = p.is }

    on : (i : ℕ) → IsPlaceBelow o len s n i → IsPlaceOf catalog sheet s i
    on i p = record { place = p.place; reference = from_o p.place p.reference; is = p.is }

-- the root slots, one after another
pub slots_more : (to : ℕ → ℕ) (n : ℕ) (sheet mid now : Sheet) → IsRenamed (λ i. (slot : ℕ) × (slot < n) × (i ≡ 2 + slot)) to sheet mid → IsRenamed (λ i. i ≡ 2 + n) to mid now
    → IsRenamed (λ i. (slot : ℕ) × (slot < n + 1) × (i ≡ 2 + slot)) to sheet now
slots_more to n sheet mid now first second =
    renamed_then (λ i. (slot : ℕ) × (slot < n) × (i ≡ 2 + slot)) (λ i. i ≡ 2 + n) (λ i. (slot : ℕ) × (slot < n + 1) × (i ≡ 2 + slot)) to sheet mid now first second
    (λ i p e. omega (arith, p.1, p.2)) parts (λ i p. (p.0, omega (arith, p.1), p.2)) (λ i e. (n, omega arith, e))
  where
    parts : (i : ℕ) → (slot : ℕ) × (slot < n + 1) × (i ≡ 2 + slot) → ((slot : ℕ) × (slot < n) × (i ≡ 2 + slot)) ⊎ (i ≡ 2 + n)
    parts i (slot, low, is) = elim (cases_eq slot n) [ inl same ↦ inr (is ∙ ap (λ k. 2 + k) same) | inr apart ↦ inl (slot, omega arith, is) ]
