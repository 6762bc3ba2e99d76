-- A book with one more name, and what images show under it.
use Rattle.std.proofs.Common.{◌≡◌, ◌≢◌, ◌+◌, ◌-◌, ◌==◌, ◌∙◌, inl, inr, ℕ, Bool, true, false, cond, List, get_or, Option, Some, None, is_some, unwrap_or, refl, sym, ap, subst, arith}
use Rattle.std.proofs.lemmas.Bool.{cases_eq, eq-eqb, ne_eqb}
use Rattle.std.specs.Prelude.{slice_index}
use Rattle.std.specs.Ordering.{nat_cmp}
use Rattle.std.specs.Cmp.{nat_cmp_total, unsigned_tied}
use Rattle.std.specs.FinMap.{FinMap, get, insert, get-insert}
use mathlib.Core.Bool.{true≢false}
use Rattle.pm3_types.specs.Fields.{Fields, is_reference}
use Rattle.pm3_types.specs.declared.type_map.Tail as tails
use Rattle.pm3_types.specs.declared.type_map.Tail.TheVariants.{Empty, Refs, Bytes}
use Rattle.pm3_types.specs.Record.{Record}
use Rattle.pm3_types.specs.Layout.{Sheet, type_in, tail_in, is_unmoved, is_address, page_in, word_in}
use Rattle.pm3_types.specs.PageForm.{IsReferenceIn, IsTailReference, map_at}
use Rattle.pm3_types.specs.Shown.{Book, Images, IsKnown, IsOneToOne, FitsImages, name_by, list_of, field_of, tail_of, record_by, object_in, object_at, roots_in}
use Rattle.pm3_types.proofs.Writes.{alike}
use Rattle.pm3_access.proofs.Homes.{is_some_none, some_of}

-- a map with an entry more
pub get_here : {X : Type 0} (m : FinMap nat_cmp X) (k q : ℕ) (x : X) → q ≡ k → get (insert m k x) q ≡ Some x
get_here m k q x is = get-insert nat_cmp_total m k x q ∙ ap (λ (b : Bool). cond b (Some x) (get m q)) (unsigned_tied q k ∙ eq-eqb q k is)

pub get_else : {X : Type 0} (m : FinMap nat_cmp X) (k q : ℕ) (x : X) → q ≢ k → get (insert m k x) q ≡ get m q
get_else m k q x ne = get-insert nat_cmp_total m k x q ∙ ap (λ (b : Bool). cond b (Some x) (get m q)) (unsigned_tied q k ∙ ne_eqb q k ne)

choice : (b : Bool) (x y w : ℕ) → (b ≡ true → x ≡ y) → cond b x w ≡ cond b y w
choice true x y w same = same refl
choice false x y w same = refl

module _ (book : Book) (a n : ℕ) (free : get book a ≡ None) where
  pub old_apart : (b m : ℕ) → get book b ≡ Some m → b ≢ a
  old_apart b m named e = is_some_none m (sym free ∙ ap (get book) (sym e) ∙ named)

  pub old_named : (b m : ℕ) → get book b ≡ Some m → get (insert book a n) b ≡ Some m
  old_named b m named = get_else book a b n (old_apart b m named) ∙ named

  some_kept : (x : ℕ) → is_some (get book x) ≡ true → get (insert book a n) x ≡ get book x
  some_kept x is = get_else book a x n (λ e. true≢false (sym is ∙ ap (λ (b : ℕ). is_some (get book b)) e ∙ ap is_some free))

  -- what was known is known, under the same name
  pub known_kept : (x : ℕ) → IsKnown book x → IsKnown (insert book a n) x
  known_kept x (inl zero) = inl zero
  known_kept x (inr is) = inr (ap is_some (some_kept x is) ∙ is)

  pub name_kept : (x : ℕ) → IsKnown book x → name_by (insert book a n) x ≡ name_by book x
  name_kept x (inl zero) = ap (name_by (insert book a n)) zero ∙ sym (ap (name_by book) zero)
  name_kept x (inr is) = ap (λ (o : Option ℕ). cond (x == 0) 0 (unwrap_or o 0)) (some_kept x is)

  tail_kept : (tail : tails.Tail) (words : List ℕ) (at len : ℕ) → ((k : ℕ) → IsTailReference tail len k → IsKnown book (get_or words (at + k) 0))
      → tail_of (insert book a n) tail words at len ≡ tail_of book tail words at len
  tail_kept Empty words at len known = refl
  tail_kept Refs words at len known = alike _ _ len 0 (λ k from until. name_kept (get_or words (at + k) 0) (known k (omega arith)))
  tail_kept Bytes words at len known = refl

  -- an object all of whose references are known has the same record
  record_kept : (o : Option Fields) (words : List ℕ) (at head : ℕ) → ((k : ℕ) → IsReferenceIn o (tail_in head) k → IsKnown book (get_or words (at + 2 + k) 0))
      → record_by (insert book a n) o words at head ≡ record_by book o words at head
  record_kept None words at head known = refl
  record_kept (Some map) words at head known =
      let fields : list_of map.count (field_of (insert book a n) map words at) ≡ list_of map.count (field_of book map words at) =
      alike _ _ map.count 0 (λ f from until. choice (is_reference map f) (name_by (insert book a n) (get_or words (at + 2 + f) 0)) (name_by book (get_or words (at + 2 + f) 0)) (get_or words (at + 2 + f) 0)
      (λ is. name_kept (get_or words (at + 2 + f) 0) (known f (inl (omega arith, is))))) in
      let items = tail_kept map.tail words (at + 2 + map.count) (tail_in head) item in
      λ i. record { ty = type_in head; fields = fields i; tail = items i }
    where
      item : (k : ℕ) → IsTailReference map.tail (tail_in head) k → IsKnown book (get_or words (at + 2 + map.count + k) 0)
      item k is =
          let same : k ≡ map.count + k - map.count = omega arith in
          let place : at + 2 + (map.count + k) ≡ at + 2 + map.count + k = omega arith in
          subst (λ (i : ℕ). IsKnown book (get_or words i 0)) place (known (map.count + k) (inr (omega arith, subst (IsTailReference map.tail (tail_in head)) same is)))

  -- and is shown as it was
  pub object_kept : (catalog : List Fields) (base : ℕ) (images : Images) → FitsImages catalog base book images → (b m : ℕ) → get book b ≡ Some m
      → object_at (insert book a n) catalog base images b ≡ object_at book catalog base images b
  object_kept catalog base images fits b m named = ap (λ (o : Option Record). cond (is_address base b) o None) (of (get images (page_in base b)) refl)
    where
      of : (o : Option Sheet) → get images (page_in base b) ≡ o → object_in (insert book a n) catalog o (word_in base b) ≡ object_in book catalog o (word_in base b)
      of None on = refl
      of (Some sheet) on = ap (λ (r : Record). cond (is_unmoved sheet (word_in base b)) (Some r) None)
          (record_kept (map_at catalog sheet (word_in base b)) sheet.words (word_in base b) (slice_index sheet.words (word_in base b)) (λ k ref. fits.references b m k sheet named on ref))

  -- and so are the roots
  pub roots_kept : (catalog : List Fields) (base : ℕ) (images now : Images) → FitsImages catalog base book images
      → (o : Option Sheet) → get images 2 ≡ o → roots_in catalog base (insert book a n) now o ≡ roots_in catalog base book images o
  roots_kept catalog base images now fits None on = refl
  roots_kept catalog base images now fits (Some sheet) on =
      ap Some (alike (λ (slot : ℕ). name_by (insert book a n) (slice_index sheet.words (2 + slot))) (λ (slot : ℕ). name_by book (slice_index sheet.words (2 + slot))) 16 0
      (λ slot from until. name_kept (slice_index sheet.words (2 + slot)) (fits.roots slot sheet (omega arith) on)))

  module _ (fresh : (b : ℕ) → get book b ≡ Some n → ⊥) where
    -- no name has two addresses, where the name is new
    pub one_more : IsOneToOne book → IsOneToOne (insert book a n)
    one_more one b c q is also = elim (cases_eq b a) [
      | inl e ↦ elim (cases_eq c a) [
        | inl f ↦ e ∙ sym f
        | inr apart ↦ (let same = some_of n q (sym (get_here book a b n e) ∙ is) in absurd (fresh c (sym (get_else book a c n apart) ∙ also ∙ ap Some (sym same))))
      ]
      | inr off ↦ elim (cases_eq c a) [
        | inl f ↦ (let same = some_of n q (sym (get_here book a c n f) ∙ also) in absurd (fresh b (sym (get_else book a b n off) ∙ is ∙ ap Some (sym same))))
        | inr apart ↦ one b c q (sym (get_else book a b n off) ∙ is) (sym (get_else book a c n apart) ∙ also)
      ]
    ]
