-- The record of an object in which one place was written.
use Rattle.std.proofs.Common.{◌≡◌, ◌≢◌, ◌<◌, ◌+◌, ◌∙◌, inl, inr, ℕ, cond, List, length, get_or, set, Some, sym, ap, arith, length-set, get_or-set_other, get_or-set_same}
use Rattle.std.proofs.lemmas.Bool.{cases_eq}
use Rattle.std.proofs.lemmas.List.{same_lists}
use Rattle.std.proofs.lemmas.List.FromFn.{length-map-range_with_len, get_or-map-range_with_len}
use Rattle.pm3_types.specs.Fields.{Fields, is_reference}
use Rattle.pm3_types.specs.Layout.{tail_in}
use Rattle.pm3_types.specs.Shown.{Book, name_by, list_of, field_of, tail_of, record_by}
use Rattle.pm3_types.proofs.Writes.{tail_alike}

-- a list with another value at one place
pub list_of-set : {A : Type 0} (n : ℕ) (f g : ℕ → A) (k : ℕ) → k < n → ((j : ℕ) → j < n → j ≢ k → g j ≡ f j) → list_of n g ≡ set (list_of n f) k (g k)
list_of-set {A = A} n f g k low same = same_lists (list_of n g) (set (list_of n f) k (g k)) lengths each
  where
    lengths : length (list_of n g) ≡ length (set (list_of n f) k (g k))
    lengths = length-map-range_with_len g 0 n ∙ sym (length-set (list_of n f) k (g k) ∙ length-map-range_with_len f 0 n)

    each : (j : ℕ) (d : A) → j < length (list_of n g) → get_or (list_of n g) j d ≡ get_or (set (list_of n f) k (g k)) j d
    each j d below =
        let within : j < n = omega (arith, length-map-range_with_len g 0 n) in
        get_or-map-range_with_len g 0 n j j d within (omega arith) ∙ elim (cases_eq j k) [
          | inl e ↦ ap g e ∙ sym (ap (λ (i : ℕ). get_or (set (list_of n f) k (g k)) i d) e ∙ get_or-set_same (list_of n f) k (g k) d (omega (arith, length-map-range_with_len f 0 n)))
          | inr apart ↦ same j within apart ∙ sym (get_or-set_other (list_of n f) k j (g k) d apart ∙ get_or-map-range_with_len f 0 n j j d within (omega arith))
        ]

module _ (book : Book) (fields : Fields) (words : List ℕ) (at head v : ℕ) where
  -- the value that a word stands for in a field
  abbrev pub value_in : ℕ → ℕ → ℕ
  value_in f word = cond (is_reference fields f) (name_by book word) word

  -- a field written
  pub field_written : (f : ℕ) → f < fields.count → at + 2 + f < length words
      → record_by book (Some fields) (set words (at + 2 + f) v) at head
      ≡ record {
        ty = (record_by book (Some fields) words at head).ty;
        fields = set (record_by book (Some fields) words at head).fields f (value_in f v);
        tail = (record_by book (Some fields) words at head).tail;
      }
  field_written f low within =
      let kept : (j : ℕ) → j < fields.count → j ≢ f → field_of book fields (set words (at + 2 + f) v) at j ≡ field_of book fields words at j =
      λ j below apart. ap (value_in j) (get_or-set_other words (at + 2 + f) (at + 2 + j) v 0 (λ e. apart (omega arith))) in
      let here : field_of book fields (set words (at + 2 + f) v) at f ≡ value_in f v = ap (value_in f) (get_or-set_same words (at + 2 + f) v 0 within) in
      let values = list_of-set fields.count (field_of book fields words at) (field_of book fields (set words (at + 2 + f) v) at) f low kept
      ∙ ap (set (list_of fields.count (field_of book fields words at)) f) here in
      let items : tail_of book fields.tail (set words (at + 2 + f) v) (at + 2 + fields.count) (tail_in head) ≡ tail_of book fields.tail words (at + 2 + fields.count) (tail_in head) =
      tail_alike book words (set words (at + 2 + f) v) fields.tail (at + 2 + fields.count) (tail_in head)
      (λ j below. get_or-set_other words (at + 2 + f) (at + 2 + fields.count + j) v 0 (λ e. omega arith)) in
      λ i. record { ty = (record_by book (Some fields) words at head).ty; fields = values i; tail = items i }
