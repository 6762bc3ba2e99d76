-- How the bytes and the head of an entry's record come about, page by page.
use Rattle.std.proofs.Common.{◌≡◌, ◌+◌, ◌*◌, ◌<◌, ◌≤◌, ℕ, List, [], ◌∷◌, ◌++◌, map, length, take, drop, get_or, refl, sym, ◌∙◌, ap, append_assoc, arith}
use Rattle.std.proofs.lemmas.List.{append-nil, drop_more, drop_all, take_all, map_more}
use Rattle.pm3_journal.specs.Format.{Image, part_bytes, parts_bytes, parts_size, page_in}
use Rattle.pm3_journal.specs.Summaries.{part_of}

-- one page more is put
pub bytes_step : (items : List (ℕ × List ℕ)) (i number : ℕ) (image now next whole : List ℕ) → i < length items → now ++ parts_bytes (map part_of (drop i items)) ≡ whole → number ≡ (get_or items i (0, [])).0 → image ≡ (get_or items i (0, [])).1 → next ≡ now ++ part_bytes (Image number image) → next ++ parts_bytes (map part_of (drop (i + 1) items)) ≡ whole
bytes_step items i number image now next whole within so_far is_number is_image put =
    ap (λ (l : List ℕ). l ++ parts_bytes (map part_of (drop (i + 1) items))) put
    ∙ ap (λ (n : ℕ). (now ++ part_bytes (Image n image)) ++ parts_bytes (map part_of (drop (i + 1) items))) is_number
    ∙ ap (λ (l : List ℕ). (now ++ part_bytes (Image (get_or items i (0, [])).0 l)) ++ parts_bytes (map part_of (drop (i + 1) items))) is_image
    ∙ append_assoc now (part_bytes (part_of (get_or items i (0, [])))) (parts_bytes (map part_of (drop (i + 1) items)))
    ∙ ap (λ (l : List (ℕ × List ℕ)). now ++ parts_bytes (map part_of l)) (sym (drop_more items i (0, []) within))
    ∙ so_far

pub bytes_end : (items : List (ℕ × List ℕ)) (i : ℕ) (now whole : List ℕ) → length items ≤ i → now ++ parts_bytes (map part_of (drop i items)) ≡ whole → now ≡ whole
bytes_end items i now whole all so_far =
    sym (append-nil now) ∙ ap (λ (l : List (ℕ × List ℕ)). now ++ parts_bytes (map part_of l)) (sym (drop_all i items all)) ∙ so_far

-- each page has 4104 bytes in the record
pub size_of_items : (items : List (ℕ × List ℕ)) → parts_size (map part_of items) ≡ 4104 * length items
size_of_items [] = refl
size_of_items (item ∷ items) = omega (arith, size_of_items items)

pub numbers_step : (items : List (ℕ × List ℕ)) (i number : ℕ) (now next : List ℕ) → i < length items → now ≡ map (λ (x : ℕ × List ℕ). x.0) (take i items) → number ≡ (get_or items i (0, [])).0 → next ≡ now ++ number ∷ [] → next ≡ map (λ (x : ℕ × List ℕ). x.0) (take (i + 1) items)
numbers_step items i number now next within so_far is_number put =
    put ∙ ap (λ (l : List ℕ). l ++ number ∷ []) so_far ∙ ap (λ (n : ℕ). map (λ (x : ℕ × List ℕ). x.0) (take i items) ++ n ∷ []) is_number ∙ sym (map_more (λ (x : ℕ × List ℕ). x.0) items i (0, []) within)

pub pages_in : (items : List (ℕ × List ℕ)) → map (λ (x : ℕ × List ℕ). x.0) items ≡ map page_in (map part_of items)
pages_in [] = refl
pages_in (item ∷ items) = ap (λ (l : List ℕ). item.0 ∷ l) (pages_in items)

pub numbers_end : (items : List (ℕ × List ℕ)) (i : ℕ) (now : List ℕ) → length items ≤ i → now ≡ map (λ (x : ℕ × List ℕ). x.0) (take i items) → now ≡ map page_in (map part_of items)
numbers_end items i now all so_far = so_far ∙ ap (map (λ (x : ℕ × List ℕ). x.0)) (take_all i items all) ∙ pages_in items
