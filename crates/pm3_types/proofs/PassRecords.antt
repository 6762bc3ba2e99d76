-- An object that was copied with new addresses has the same record under the new book.
use Rattle.std.proofs.Common.{◌≡◌, ◌<◌, ◌+◌, ◌-◌, ◌/◌, ◌%◌, ◌∙◌, inl, inr, ℕ, Bool, true, false, cond, List, get_or, Option, Some, None, refl, sym, ap, subst, arith}
use Rattle.std.proofs.lemmas.Bool.{false≢true}
use Rattle.pm3_types.specs.Fields.{Fields, is_reference}
use Rattle.pm3_types.specs.declared.type_map.Tail.{Tail}
use Rattle.pm3_types.specs.declared.type_map.Tail.TheVariants.{Empty, Refs, Bytes}
use Rattle.pm3_types.specs.Layout.{type_in, tail_in, tail_words, size_by}
use Rattle.pm3_types.specs.PageForm.{IsReferenceIn, IsTailReference}
use Rattle.pm3_types.specs.Shown.{Book, name_by, byte_in, list_of, field_of, tail_of, record_by}
use Rattle.pm3_types.proofs.Writes.{alike}

module _ (book new : Book) (words now : List ℕ) where
  tail_same : (tail : Tail) (s t len : ℕ) → ((j : ℕ) → IsTailReference tail len j → name_by new (get_or now (t + j) 0) ≡ name_by book (get_or words (s + j) 0))
      → ((j : ℕ) → j < tail_words tail len → (IsTailReference tail len j → ⊥) → get_or now (t + j) 0 ≡ get_or words (s + j) 0)
      → tail_of new tail now t len ≡ tail_of book tail words s len
  tail_same Empty s t len named others = refl
  tail_same Refs s t len named others = alike _ _ len 0 (λ j from until. named j (omega arith))
  tail_same Bytes s t len named others =
      alike _ _ len 0 (λ j from until. ap (λ (w : ℕ). byte_in w (j % 8)) (others (j / 8) (omega arith) (λ none. none)))

  field_same : (fields : Fields) (s t f : ℕ) (b : Bool) → is_reference fields f ≡ b
      → (b ≡ true → name_by new (get_or now (t + 2 + f) 0) ≡ name_by book (get_or words (s + 2 + f) 0))
      → (b ≡ false → get_or now (t + 2 + f) 0 ≡ get_or words (s + 2 + f) 0)
      → field_of new fields now t f ≡ field_of book fields words s f
  field_same fields s t f true is named others =
      ap (λ (c : Bool). cond c (name_by new (get_or now (t + 2 + f) 0)) (get_or now (t + 2 + f) 0)) is ∙ named refl
      ∙ sym (ap (λ (c : Bool). cond c (name_by book (get_or words (s + 2 + f) 0)) (get_or words (s + 2 + f) 0)) is)
  field_same fields s t f false is named others =
      ap (λ (c : Bool). cond c (name_by new (get_or now (t + 2 + f) 0)) (get_or now (t + 2 + f) 0)) is ∙ others refl
      ∙ sym (ap (λ (c : Bool). cond c (name_by book (get_or words (s + 2 + f) 0)) (get_or words (s + 2 + f) 0)) is)

  -- a body whose reference places stand for the same names, and whose other words are the same, has the same record
  pub record_same : (o : Option Fields) (s t head : ℕ)
      → ((k : ℕ) → IsReferenceIn o (tail_in head) k → name_by new (get_or now (t + 2 + k) 0) ≡ name_by book (get_or words (s + 2 + k) 0))
      → ((k : ℕ) → 2 + k < size_by o (tail_in head) → (IsReferenceIn o (tail_in head) k → ⊥) → get_or now (t + 2 + k) 0 ≡ get_or words (s + 2 + k) 0)
      → record_by new o now t head ≡ record_by book o words s head
  record_same None s t head named others = refl
  record_same (Some fields) s t head named others = λ i. record { ty = type_in head; fields = values i; tail = items i }
    where
      not_field : (f : ℕ) → f < fields.count → is_reference fields f ≡ false → IsReferenceIn (Some fields) (tail_in head) f → ⊥
      not_field f low is (inl field) = false≢true (sym is ∙ field.1)
      not_field f low is (inr item) = absurd (omega (arith, item.0))

      values : list_of fields.count (field_of new fields now t) ≡ list_of fields.count (field_of book fields words s)
      values = alike _ _ fields.count 0 (λ f from until. field_same fields s t f (is_reference fields f) refl
          (λ is. named f (inl (omega arith, is)))
          (λ is. others f (omega arith) (not_field f (omega arith) is)))

      moved : (j a : ℕ) → a + 2 + (fields.count + j) ≡ a + 2 + fields.count + j
      moved j a = omega arith

      back : (j : ℕ) → fields.count + j - fields.count ≡ j
      back j = omega arith

      item_of : (j : ℕ) → IsTailReference fields.tail (tail_in head) j → IsReferenceIn (Some fields) (tail_in head) (fields.count + j)
      item_of j is = inr (omega arith, coe_item (sym (back j)) is)
        where
          coe_item : {m n : ℕ} → m ≡ n → IsTailReference fields.tail (tail_in head) m → IsTailReference fields.tail (tail_in head) n
          coe_item e is_ = (let P : ℕ → Type 0 = λ n. IsTailReference fields.tail (tail_in head) n in subst P e is_)

      of_item : (j : ℕ) → IsReferenceIn (Some fields) (tail_in head) (fields.count + j) → IsTailReference fields.tail (tail_in head) j
      of_item j (inl field) = absurd (omega (arith, field.0))
      of_item j (inr item) = (let P : ℕ → Type 0 = λ n. IsTailReference fields.tail (tail_in head) n in subst P (back j) item.1)

      items : tail_of new fields.tail now (t + 2 + fields.count) (tail_in head) ≡ tail_of book fields.tail words (s + 2 + fields.count) (tail_in head)
      items = tail_same fields.tail (s + 2 + fields.count) (t + 2 + fields.count) (tail_in head)
          (λ j is. ap (λ (n : ℕ). name_by new (get_or now n 0)) (sym (moved j t)) ∙ named (fields.count + j) (item_of j is) ∙ ap (λ (n : ℕ). name_by book (get_or words n 0)) (moved j s))
          (λ j low is. ap (λ (n : ℕ). get_or now n 0) (sym (moved j t)) ∙ others (fields.count + j) (omega arith) (λ reference. is (of_item j reference))
          ∙ ap (λ (n : ℕ). get_or words n 0) (moved j s))
