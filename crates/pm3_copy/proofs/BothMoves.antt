-- Where the objects of two lists have gone.
use Rattle.std.proofs.Common.{◌≡◌, ◌≢◌, ◌<◌, ◌≤◌, ◌∙◌, ◌⊎◌, inl, inr, ℕ, zero, suc, true, List, [], ◌∷◌, ◌++◌, length, get_or, sym, subst, arith}
use Rattle.std.specs.FinMap as map_of
use Rattle.std.specs.List.{Contains}
use Rattle.std.proofs.lemmas.Bool.{cases_eq}
use Rattle.std.proofs.lemmas.List.{get_or_default}
use Rattle.std.proofs.lemmas.List.Elements.{Contains-get_or}
use Rattle.pm3_types.specs.Fields.{Fields}
use Rattle.pm3_types.specs.Layout.{address, is_address, page_in}
use Rattle.pm3_types.specs.PageForm.{is_memory_reference}
use Rattle.pm3_types.specs.PassMoves.{IsRising, paired, moved_by}
use Rattle.pm3_page.specs.PageMap.{Images}
use Rattle.pm3_copy.specs.Moving.{IsCopyAt, AreCopied, AreMoved, BeginsOn}
use Rattle.pm3_copy.proofs.Following.{to_partner, stays, first_partner, passed_over}

-- a number is on a list or not
pub among : (list : List ℕ) (a : ℕ) → Contains list a ⊎ (Contains list a → ⊥)
among [] a = inr (λ c. omega (arith, c.1))
among (x ∷ xs) a = elim (cases_eq x a) [
  | inl same ↦ inl (0, omega arith, same)
  | inr apart ↦ elim (among xs a) [ inl there ↦ inl (suc there.0, omega (arith, there.1), there.2) | inr never ↦ inr (later apart never) ]
]
  where
    later : x ≢ a → (Contains xs a → ⊥) → Contains (x ∷ xs) a → ⊥
    later apart never (zero, low, is) = apart is
    later apart never (suc k, low, is) = never (k, omega arith, is)

-- the place of a member
place_of : (list : List ℕ) (a : ℕ) (c : Contains list a) → a ≡ get_or list c.0 0
place_of list a c = sym c.2 ∙ get_or_default list c.0 a 0 c.1

module _ (catalog : List Fields) (base : ℕ) (space : Images) (olds others : List ℕ) (news places : List ℕ) (rising : IsRising olds) (others_rise : IsRising others) (long : length news ≡ length olds)
    (others_long : length places ≡ length others) (apart : (a : ℕ) → Contains olds a → Contains others a → ⊥) (old mid new : Images) (first : AreCopied catalog base space olds news old mid)
    (second : AreCopied catalog base space others places mid new) (last : ℕ) (up_to : (i : ℕ) → i < length news → page_in base (get_or news i 0) ≤ last)
    (before : (p : ℕ) → p ≤ last → map_of.get new p ≡ map_of.get mid p) where
  abbrev to : ℕ → ℕ
  to w = moved_by (paired olds news ++ paired others places) w

  to_first : (i : ℕ) → i < length olds → to (get_or olds i 0) ≡ get_or news i 0
  to_first i low = first_partner olds news (paired others places) (get_or olds i 0) long (Contains-get_or olds i 0 low) ∙ to_partner olds news i rising long low

  to_second : (i : ℕ) → i < length others → to (get_or others i 0) ≡ get_or places i 0
  to_second i low =
      passed_over olds news (paired others places) (get_or others i 0) long (λ there. apart (get_or others i 0) there (Contains-get_or others i 0 low)) ∙ to_partner others places i others_rise others_long low

  abbrev Stands : ℕ → Type 0
  Stands a = IsCopyAt catalog base space new a (to a) × (is_memory_reference base 16384 (to a) ≡ true) × (is_address base (to a) ≡ true)

  first_stands : (i : ℕ) → i < length olds → Stands (get_or olds i 0)
  first_stands i low =
      let less : i < length news = omega arith in
      let copy = first.each i less in
      let references = first.references i less in
      subst (λ b. IsCopyAt catalog base space new (get_or olds i 0) b × (is_memory_reference base 16384 b ≡ true) × (is_address base b ≡ true)) (sym (to_first i low))
      (record { source = copy.source; copy = copy.copy; on = copy.on; begins = copy.begins; now = before (page_in base (get_or news i 0)) (up_to i less) ∙ copy.now; same = copy.same }, references.0, references.1)

  second_stands : (i : ℕ) → i < length others → Stands (get_or others i 0)
  second_stands i low =
      let less : i < length places = omega arith in
      let references = second.references i less in
      subst (λ b. IsCopyAt catalog base space new (get_or others i 0) b × (is_memory_reference base 16384 b ≡ true) × (is_address base b ≡ true)) (sym (to_second i low))
      (second.each i less, references.0, references.1)

  pub both_moved : AreMoved catalog base space olds others to old new
  both_moved = record {
    moved = moved;
    others = λ a none neither. passed_over olds news (paired others places) a long none ∙ stays others places a neither;
    only = only;
    pages = λ p. second.pages p ∙ first.pages p;
  }
    where
      moved : (a : ℕ) → Contains olds a ⊎ Contains others a → Stands a
      moved a (inl c) = subst Stands (sym (place_of olds a c)) (first_stands c.0 c.1)
      moved a (inr c) = subst Stands (sym (place_of others a c)) (second_stands c.0 c.1)

      only : (p w : ℕ) → BeginsOn new p w → BeginsOn old p w ⊎ ((a : ℕ) × (Contains olds a ⊎ Contains others a) × (to a ≡ address base p w))
      only p w begins = elim (second.only p w begins) [
        | inr c ↦ (
            let low : c.0 < length others = omega (arith, c.1) in
            inr (get_or others c.0 0, inr (Contains-get_or others c.0 0 low), to_second c.0 low ∙ sym (place_of places (address base p w) c)))
        | inl was ↦ elim (first.only p w was) [
          | inr c ↦ (
              let low : c.0 < length olds = omega (arith, c.1) in
              inr (get_or olds c.0 0, inl (Contains-get_or olds c.0 0 low), to_first c.0 low ∙ sym (place_of news (address base p w) c)))
          | inl blank ↦ inl blank
        ]
      ]
