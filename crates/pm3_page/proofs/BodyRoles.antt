-- The roles of the words of an object's body, by the places that its type gives it.
use Rattle.std.proofs.Common.{◌≡◌, ◌<◌, ◌≤◌, ◌+◌, ◌-◌, ◌*◌, ◌/◌, ◌==◌, ◌∙◌, inl, inr, ℕ, Bool, true, cond, nat_lt, Some, refl, ap, arith}
use Rattle.std.proofs.lemmas.Bool.{cases_lt, cases_Bool, cond-true, cond-false, eq-eqb, ne_eqb, lt-ltb, le-ltb}
use Rattle.pm3_types.specs.Fields.{Fields, is_reference}
use Rattle.pm3_types.specs.Layout.{size_by, tail_words}
use Rattle.pm3_types.specs.PageForm.{is_padded, IsReferenceIn, IsTailReference, IsTailBytes}
use Rattle.pm3_types.specs.declared.type_map.Tail.{Tail}
use Rattle.pm3_types.specs.declared.type_map.Tail.TheVariants.{Empty, Refs}
use Rattle.pm3_types.specs.declared.type_map.Tail.TheVariants as tails
use Rattle.pm3_page.specs.declared.roles.Reading.{Reading}
use Rattle.pm3_page.specs.declared.roles.Role.{Role}
use Rattle.pm3_page.specs.declared.roles.Role.TheVariants.{Name, Number, Reference, Bytes}
use Rattle.pm3_page.specs.Roles.{role_at, body_role, tail_role}
use Rattle.pm3_page.specs.Scan.{object_reading}
use Rattle.pm3_page.proofs.StepCases.{accepts, role_part}

body_field : (map : Fields) (len k : ℕ) → k < map.count → body_role map len k ≡ cond (is_reference map k) Reference Number
body_field map len k low = cond-true (nat_lt k map.count) _ _ (lt-ltb k map.count low)

body_tail : (map : Fields) (len k : ℕ) → map.count ≤ k → body_role map len k ≡ tail_role map.tail len (k - map.count)
body_tail map len k high = cond-false (nat_lt k map.count) _ _ (le-ltb k map.count high)

tail_reference : (tail : Tail) (len k : ℕ) → IsTailReference tail len k → (tail_role tail len k ≡ Reference) × (k < tail_words tail len)
tail_reference Empty len k is = absurd is
tail_reference Refs len k is = (refl, is)
tail_reference tails.Bytes len k is = absurd is

-- a reference place has that role, within the object
pub body_reference : (map : Fields) (len k : ℕ) → IsReferenceIn (Some map) len k → (body_role map len k ≡ Reference) × (2 + k < size_by (Some map) len)
body_reference map len k (inl field) = (body_field map len k field.0 ∙ cond-true (is_reference map k) _ _ field.1, omega arith)
body_reference map len k (inr item) =
    let is = tail_reference map.tail len (k - map.count) item.1 in
    (body_tail map len k item.0 ∙ is.0, omega (arith, is.1))

-- a word of a tail of bytes has that role, within the object
pub body_bytes : (map : Fields) (len j k : ℕ) → IsTailBytes (Some map) len j k → (body_role map len k ≡ Bytes (len - 8 * j)) × (2 + k < size_by (Some map) len)
body_bytes map len j k is =
    let item : k - map.count ≡ j = omega arith in
    let words : tail_words map.tail len ≡ (len + 7) / 8 = ap (λ (t : Tail). tail_words t len) is.0 in
    (body_tail map len k (omega arith) ∙ ap (λ (t : Tail). tail_role t len (k - map.count)) is.0 ∙ ap (λ (n : ℕ). Bytes (len - 8 * n)) item, omega (arith, words))

-- a word of a body whose references and padding are sound has the form of its role
tail_accepts : (refers : ℕ → Bool) (tail : Tail) (len k word : ℕ) → k < tail_words tail len
    → (IsTailReference tail len k → refers word ≡ true) → (tail ≡ tails.Bytes → 8 * k < len → is_padded (len - 8 * k) word ≡ true)
    → accepts refers (tail_role tail len k) word ≡ true
tail_accepts refers Empty len k word within reference padding = absurd (omega arith)
tail_accepts refers Refs len k word within reference padding = reference within
tail_accepts refers tails.Bytes len k word within reference padding = padding refl (omega arith)

pub body_accepts : (refers : ℕ → Bool) (map : Fields) (len k word : ℕ) → 2 + k < size_by (Some map) len
    → (IsReferenceIn (Some map) len k → refers word ≡ true) → ((j : ℕ) → IsTailBytes (Some map) len j k → is_padded (len - 8 * j) word ≡ true)
    → accepts refers (body_role map len k) word ≡ true
body_accepts refers map len k word within reference padding = elim (cases_lt k map.count) [ inl low ↦ field low | inr high ↦ item high ]
  where
    field : k < map.count → accepts refers (body_role map len k) word ≡ true
    field low = elim (cases_Bool (is_reference map k)) [
      | inl is ↦ ap (λ (r : Role). accepts refers r word) (body_field map len k low ∙ cond-true (is_reference map k) _ _ is) ∙ reference (inl (low, is))
      | inr is ↦ ap (λ (r : Role). accepts refers r word) (body_field map len k low ∙ cond-false (is_reference map k) _ _ is)
    ]

    item : map.count ≤ k → accepts refers (body_role map len k) word ≡ true
    item high =
        ap (λ (r : Role). accepts refers r word) (body_tail map len k high)
        ∙ tail_accepts refers map.tail len (k - map.count) word (omega arith) (λ is. reference (inr (high, is)))
        (λ is more. padding (k - map.count) (is, more, omega arith))

module _ (r : Reading) (s : ℕ) (map : Fields) (len : ℕ) (low : 2 ≤ s) (ends : s + size_by (Some map) len ≤ r.end) where
  -- the word behind an object's head is its name
  pub role_name : role_at (object_reading r s map len) (s + 1) ≡ Name
  role_name =
      role_part (object_reading r s map len) (s + 1) (omega arith) (omega arith) (λ e. omega arith)
      ∙ cond-true (s + 1 == s + 1) _ _ (eq-eqb (s + 1) (s + 1) refl)

  -- the words behind the name are its body
  pub role_body : (k : ℕ) → 2 + k < size_by (Some map) len → role_at (object_reading r s map len) (s + 2 + k) ≡ body_role map len k
  role_body k within =
      role_part (object_reading r s map len) (s + 2 + k) (omega arith) (omega arith) (λ e. omega arith)
      ∙ cond-false (s + 2 + k == s + 1) _ _ (ne_eqb (s + 2 + k) (s + 1) (λ e. omega arith))
      ∙ ap (body_role map len) place
    where
      place : s + 2 + k - (s + 2) ≡ k
      place = omega arith
