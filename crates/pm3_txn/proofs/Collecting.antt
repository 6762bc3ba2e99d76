-- Images of homes that are put under their pages, from the last home on.
use Rattle.std.proofs.Common.{◌≡◌, ◌≢◌, ◌+◌, ◌≤◌, ℕ, Bool, cond, nat_lt, if◌then◌else◌, List, [], ◌∷◌, ◌++◌, Option, Some, None, length, get_or, inl, inr, refl, sym, ap, ◌∙◌, arith}
use Rattle.std.proofs.lemmas.Bool.{cases_eq, cases_lt}
use Rattle.std.proofs.lemmas.List.{get_or_past}
use Rattle.std.specs.FinMap as map
use Rattle.std.specs.FinMap.{get-empty, get-insert}
use Rattle.std.specs.Cmp.{nat_cmp_total}
use Rattle.std.specs.Ordering.{nat_cmp, eq_by_cmp}
use Rattle.pm3_types.specs.Layout.{PageImage}
use Rattle.pm3_types.proofs.Books.{key_same}
use Rattle.pm3_page.specs.PageMap.{Images}
use Rattle.pm3_txn.specs.declared.values.Value.{Value}
use Rattle.pm3_txn.specs.Gathering.{AreAtHome, AreImagesOf, IsGathered, IsNewImage, image_at, with_image}
use Rattle.pm3_txn.proofs.Drained.{at_last, at_front, one_more}
use Rattle.pm3_txn.proofs.Filling.{chosen_low, chosen_high, other_key}

module _ {D R : Type 0} where
  abbrev wanted : List (Option (Value D R)) → ℕ → ℕ → Option PageImage
  wanted all n u = if nat_lt u n then None else image_at (get_or all u None)

  -- from the last home on, nothing is there yet
  pub none_yet : (all : List (Option (Value D R))) (images : Images) → images ≡ map.empty → IsGathered all all images
  none_yet all images none = record {
    short = omega arith;
    front = λ u low. refl;
    images_are = λ u. ap (λ (m : Images). map.get m u) none ∙ get-empty nat_cmp u ∙ sym (chosen u);
  }
    where
      chosen : (u : ℕ) → (if nat_lt u (length all) then None else image_at (get_or all u None)) ≡ None
      chosen u = elim (cases_lt u (length all)) [
        | inl low ↦ chosen_low u (length all) None (image_at (get_or all u None)) low
        | inr high ↦ chosen_high u (length all) None (image_at (get_or all u None)) high ∙ ap image_at (get_or_past all u None high)
      ]

  -- in the end all are there
  pub all_there : (all first : List (Option (Value D R))) (images : Images) → length first ≡ 0 → IsGathered all first images → AreImagesOf all images
  all_there all first images none is u = is.images_are u ∙ chosen_high u (length first) None (image_at (get_or all u None)) (omega (arith, none))

  module _ (all items rest : List (Option (Value D R))) (slot : Option (Value D R)) (images : Images) (is : items ≡ rest ++ slot ∷ []) (at : IsGathered all items images) (home : AreAtHome all) where
    long : length items ≡ length rest + 1
    long = ap (λ (l : List (Option (Value D R))). length l) is ∙ one_more rest slot

    here : slot ≡ get_or all (length rest) None
    here = sym (at_last rest slot None) ∙ ap (λ (l : List (Option (Value D R))). get_or l (length rest) None) (sym is) ∙ at.front (length rest) (omega (arith, long))

    own : (image : PageImage) → image_at slot ≡ Some image → image.page ≡ length rest
    own image e = home (length rest) image (ap image_at (sym here) ∙ e)

    -- the page of the last home has no image yet
    pub is_new : IsNewImage images (image_at slot)
    is_new = of (image_at slot) refl
      where
        of : (o : Option PageImage) → image_at slot ≡ o → IsNewImage images o
        of None e = tt
        of (Some image) e = at.images_are image.page ∙ chosen_low image.page (length items) None (image_at (get_or all image.page None)) (let same = own image e in omega (arith, same, long))

    -- and then it has its own
    pub one_put : (now : Images) → now ≡ with_image images (image_at slot) → IsGathered all rest now
    one_put now put = record {
      short = (let short = at.short in omega (arith, short, long));
      front = λ u low. sym (at_front rest slot None u low) ∙ ap (λ (l : List (Option (Value D R))). get_or l u None) (sym is) ∙ at.front u (omega (arith, low, long));
      images_are = λ u. ap (λ (m : Images). map.get m u) put ∙ of (image_at slot) refl u;
    }
      where
        other : (u : ℕ) → u ≢ length rest → map.get images u ≡ wanted all (length rest) u
        other u ne = at.images_are u ∙ elim (cases_lt u (length rest)) [
          | inl low ↦ chosen_low u (length items) None (image_at (get_or all u None)) (omega (arith, low, long)) ∙ sym (chosen_low u (length rest) None (image_at (get_or all u None)) low)
          | inr high ↦ chosen_high u (length items) None (image_at (get_or all u None)) (omega (arith, high, ne, long)) ∙ sym (chosen_high u (length rest) None (image_at (get_or all u None)) high)
        ]

        last : (o : Option PageImage) → image_at slot ≡ o → (u : ℕ) → u ≡ length rest → wanted all (length rest) u ≡ o
        last o e u same =
            chosen_high u (length rest) None (image_at (get_or all u None)) (omega (arith, same))
            ∙ ap (λ (k : ℕ). image_at (get_or all k None)) same ∙ ap image_at (sym here) ∙ e

        of : (o : Option PageImage) → image_at slot ≡ o → (u : ℕ) → map.get (with_image images o) u ≡ wanted all (length rest) u
        of None e u = elim (cases_eq u (length rest)) [
          | inl same ↦ at.images_are u ∙ chosen_low u (length items) None (image_at (get_or all u None)) (omega (arith, same, long)) ∙ sym (last None e u same)
          | inr ne ↦ other u ne
        ]
        of (Some image) e u = get-insert nat_cmp_total images image.page image u ∙ elim (cases_eq u (length rest)) [
          | inl same ↦ ap (λ (b : Bool). cond b (Some image) (map.get images u)) (ap (λ (k : ℕ). eq_by_cmp nat_cmp u k) (own image e ∙ sym same) ∙ key_same u) ∙ sym (last (Some image) e u same)
          | inr ne ↦ ap (λ (b : Bool). cond b (Some image) (map.get images u)) (other_key u image.page (eq_by_cmp nat_cmp u image.page) refl (λ e2. ne (e2 ∙ own image e))) ∙ other u ne
        ]

  -- the homes without the last have images in the homes of their pages too
  pub rest_home : (all rest : List (Option (Value D R))) (slot : Option (Value D R)) → all ≡ rest ++ slot ∷ [] → AreAtHome all → AreAtHome rest
  rest_home all rest slot is home u image at = elim (cases_lt u (length rest)) [
    | inl low ↦ home u image (ap (λ (l : List (Option (Value D R))). image_at (get_or l u None)) is ∙ ap image_at (at_front rest slot None u low) ∙ at)
    | inr high ↦ absurd (none_some (sym (ap image_at (get_or_past rest u None high)) ∙ at))
  ]
    where
      none_some : None ≡ Some image → ⊥
      none_some e = cc e

  -- and where the last is the turn's, the others have all images
  pub rest_all : (all rest : List (Option (Value D R))) (slot : Option (Value D R)) (images : Images) → all ≡ rest ++ slot ∷ [] → image_at slot ≡ None → AreImagesOf rest images → AreImagesOf all images
  rest_all all rest slot images is none are u = are u ∙ sym (ap (λ (l : List (Option (Value D R))). image_at (get_or l u None)) is ∙ of)
    where
      of : image_at (get_or (rest ++ slot ∷ []) u None) ≡ image_at (get_or rest u None)
      of = elim (cases_lt u (length rest)) [
        | inl low ↦ ap image_at (at_front rest slot None u low)
        | inr high ↦ beyond high ∙ sym (ap image_at (get_or_past rest u None high))
      ]
        where
          beyond : length rest ≤ u → image_at (get_or (rest ++ slot ∷ []) u None) ≡ None
          beyond high = elim (cases_eq u (length rest)) [
            | inl same ↦ ap (λ (k : ℕ). image_at (get_or (rest ++ slot ∷ []) k None)) same ∙ ap image_at (at_last rest slot None) ∙ none
            | inr ne ↦ ap image_at (get_or_past (rest ++ slot ∷ []) u None (let long = one_more rest slot in omega (arith, long, high, ne)))
          ]
