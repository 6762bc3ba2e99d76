-- A page in its form is read, and what is read has the form.
use Rattle.std.proofs.Common.{◌≡◌, ◌≢◌, ◌<◌, ◌≤◌, ◌+◌, ◌-◌, ◌*◌, ◌%◌, ◌^◌, ◌==◌, ◌&&◌, ◌∙◌, inl, inr, ℕ, Bool, true, nat_lt, nat_le, List, length, get_or, Option, Some, None, refl, sym, ap, subst, arith}
use Rattle.std.proofs.lemmas.Bool.{cases_lt, cases_eq, cases_Bool, cond-false, ne_eqb, and_parts, ltb-true, leb-true, false≢true, agree_below_at}
use Rattle.pm3_types.specs.Fields.{Fields, is_reference}
use Rattle.pm3_types.specs.Layout.{Sheet, used_in, size_by, size_at, end_by, end_of, is_start}
use Rattle.pm3_types.specs.PageForm.{HasObjects, HasRoots, is_page_head, is_head_of, is_padded, map_at, tail_at, IsReferenceIn, IsTailBytes}
use Rattle.pm3_page.specs.declared.roles.Reading.{Reading}
use Rattle.pm3_page.specs.declared.roles.Role.{Role}
use Rattle.pm3_page.specs.declared.roles.Role.TheVariants.{Reference}
use Rattle.pm3_page.specs.Roles.{role_at, body_role}
use Rattle.pm3_page.specs.Scan.{object_reading, reading_to, roots_map, first_reading}
use Rattle.pm3_page.proofs.StepCases.{accepts, role_part}
use Rattle.pm3_page.proofs.Onward.{IsObject, Onward}
use Rattle.pm3_page.proofs.BodyRoles.{body_reference, body_bytes, body_accepts, role_name, role_body}

-- an object that is whole has a type
pub some_map : (o : Option Fields) (len : ℕ) → 2 ≤ size_by o len → (map : Fields) × (o ≡ Some map)
some_map None len whole = absurd (omega arith)
some_map (Some map) len whole = (map, refl)

-- the first word of a page of objects
pub record IsUsed (page word : ℕ) : Type 0 where
  pub more : 2 < used_in word
  pub most : used_in word ≤ 512

pub used : (page word : ℕ) → page ≢ 2 → is_page_head page word ≡ true → IsUsed page word
unfolding is_page_head
used page word apart is =
    let plain = sym (cond-false (page == 2) _ _ (ne_eqb page 2 apart)) ∙ is in
    let parts = and_parts (word % 2 ^ 32 == page) (nat_lt 2 (used_in word) && nat_le (used_in word) 512) plain in
    let bounds = and_parts (nat_lt 2 (used_in word)) (nat_le (used_in word) 512) parts.1 in
    record { more = ltb-true 2 (used_in word) bounds.0; most = leb-true (used_in word) 512 bounds.1 }

pub end_used : (word : ℕ) → 2 < used_in word → end_by (used_in word) ≡ used_in word
end_used word more = cond-false (used_in word == 0) _ _ (ne_eqb (used_in word) 0 (λ e. omega arith))

pub first_objects : (page word : ℕ) → page ≢ 2 → first_reading page word ≡ reading_to (used_in word) 2
first_objects page word apart = cond-false (page == 2) _ _ (ne_eqb page 2 apart)

module _ (catalog : List Fields) (refers : ℕ → Bool) (page : ℕ) (sheet : Sheet) where
  object_map : (r : Reading) (s : ℕ) (o : IsObject catalog refers (λ t. get_or sheet.words t 0) (is_start sheet) r s) (map : Fields)
      → map_at catalog sheet s ≡ Some map → map ≡ o.map
  object_map r s o map of = cc (o.of)

  object_size : (r : Reading) (s : ℕ) (o : IsObject catalog refers (λ t. get_or sheet.words t 0) (is_start sheet) r s)
      → size_at catalog sheet s ≡ size_by (Some o.map) (tail_at sheet s)
  object_size r s o = ap (λ (m : Option Fields). size_by m (tail_at sheet s)) o.of

  -- what lies ahead of the first object has the form: so has the page
  pub objects_from : page ≢ 2 → length sheet.words ≡ 512 → length sheet.starts ≡ 512 → is_page_head page (get_or sheet.words 0 0) ≡ true → get_or sheet.words 1 0 ≡ 0
      → ((s : ℕ) → is_start sheet s ≡ true → 2 ≤ s)
      → Onward catalog refers (λ t. get_or sheet.words t 0) (is_start sheet) (reading_to (used_in (get_or sheet.words 0 0)) 2) 2 → HasObjects catalog refers page sheet
  objects_from apart words starts head second low on = record {
    head = head;
    second = second;
    laid = record {
      words = words;
      starts = starts;
      end = (omega (arith, end, bounds.more), omega (arith, end, bounds.most));
      first = λ more. on.after (omega (arith, bounds.more));
      whole = λ s is. let o = on.objects s (low s is) is in (low s is, omega (arith, object_size r s o), omega (arith, object_size r s o, o.ends, end));
      apart = λ s t is above below. let o = on.objects s (low s is) is in o.alone t above (omega (arith, object_size r s o));
      next = λ s is more. let o = on.objects s (low s is) is in
          ap (λ (n : ℕ). is_start sheet (s + n)) (object_size r s o) ∙ o.follows (omega (arith, object_size r s o, end));
      rest = λ i past. elim (cases_lt i 2) [ inl below ↦ absurd (omega (arith, end, bounds.more)) | inr above ↦ on.rest i above (omega (arith, end)) ];
    };
    heads = λ s map is of. let o = on.objects s (low s is) is in ap (λ (m : Fields). is_head_of m (get_or sheet.words s 0)) (object_map r s o map of) ∙ o.sound;
    names = λ s is. let o = on.objects s (low s is) is in
        ap (λ (k : Role). accepts refers k (get_or sheet.words (s + 1) 0)) (sym (role_name r s o.map (tail_at sheet s) (low s is) o.ends)) ∙ o.parts (s + 1) (omega arith) (omega arith);
    references = λ s k is place. reference s k (low s is) (on.objects s (low s is) is) place;
    padding = λ s j k is place. padded s j k (low s is) (on.objects s (low s is) is) place;
  }
    where
      r : Reading
      r = reading_to (used_in (get_or sheet.words 0 0)) 2

      bounds : IsUsed page (get_or sheet.words 0 0)
      bounds = used page (get_or sheet.words 0 0) apart head

      end : end_of sheet ≡ used_in (get_or sheet.words 0 0)
      end = end_used (get_or sheet.words 0 0) bounds.more

      reference : (s k : ℕ) → 2 ≤ s → (o : IsObject catalog refers (λ t. get_or sheet.words t 0) (is_start sheet) r s)
          → IsReferenceIn (map_at catalog sheet s) (tail_at sheet s) k → refers (get_or sheet.words (s + 2 + k) 0) ≡ true
      reference s k at o place =
          let is = body_reference o.map (tail_at sheet s) k (subst (λ (m : Option Fields). IsReferenceIn m (tail_at sheet s) k) o.of place) in
          ap (λ (role : Role). accepts refers role (get_or sheet.words (s + 2 + k) 0)) (sym (role_body r s o.map (tail_at sheet s) at o.ends k is.1 ∙ is.0))
          ∙ o.parts (s + 2 + k) (omega arith) (omega (arith, is.1))

      padded : (s j k : ℕ) → 2 ≤ s → (o : IsObject catalog refers (λ t. get_or sheet.words t 0) (is_start sheet) r s)
          → IsTailBytes (map_at catalog sheet s) (tail_at sheet s) j k → is_padded (tail_at sheet s - 8 * j) (get_or sheet.words (s + 2 + k) 0) ≡ true
      padded s j k at o place =
          let is = body_bytes o.map (tail_at sheet s) j k (subst (λ (m : Option Fields). IsTailBytes m (tail_at sheet s) j k) o.of place) in
          ap (λ (role : Role). accepts refers role (get_or sheet.words (s + 2 + k) 0)) (sym (role_body r s o.map (tail_at sheet s) at o.ends k is.1 ∙ is.0))
          ∙ o.parts (s + 2 + k) (omega arith) (omega (arith, is.1))

  -- a page of objects: what lies ahead of the first has the form
  pub objects_onward : page ≢ 2 → HasObjects catalog refers page sheet
      → Onward catalog refers (λ t. get_or sheet.words t 0) (is_start sheet) (reading_to (used_in (get_or sheet.words 0 0)) 2) 2
  objects_onward apart form = record {
    here = λ t from until. absurd (omega arith);
    after = λ below. form.laid.first (omega (arith, end));
    parts = λ t from until. absurd (omega arith);
    objects = λ t from is. object t is;
    rest = λ t from past. form.laid.rest t (omega (arith, end));
  }
    where
      r : Reading
      r = reading_to (used_in (get_or sheet.words 0 0)) 2

      bounds : IsUsed page (get_or sheet.words 0 0)
      bounds = used page (get_or sheet.words 0 0) apart form.head

      end : end_of sheet ≡ used_in (get_or sheet.words 0 0)
      end = end_used (get_or sheet.words 0 0) bounds.more

      part : (t : ℕ) (map : Fields) → is_start sheet t ≡ true → 2 ≤ t → map_at catalog sheet t ≡ Some map → t + size_by (Some map) (tail_at sheet t) ≤ r.end
          → (u : ℕ) → t < u → u < t + size_by (Some map) (tail_at sheet t)
          → accepts refers (role_at (object_reading r t map (tail_at sheet t)) u) (get_or sheet.words u 0) ≡ true
      part t map is at of ends u above below = elim (cases_eq u (t + 1)) [ inl e ↦ name e | inr e ↦ body e ]
        where
          name : u ≡ t + 1 → accepts refers (role_at (object_reading r t map (tail_at sheet t)) u) (get_or sheet.words u 0) ≡ true
          name e =
              ap (λ (v : ℕ). accepts refers (role_at (object_reading r t map (tail_at sheet t)) v) (get_or sheet.words v 0)) e
              ∙ ap (λ (role : Role). accepts refers role (get_or sheet.words (t + 1) 0)) (role_name r t map (tail_at sheet t) at ends)
              ∙ form.names t is

          body : u ≢ t + 1 → accepts refers (role_at (object_reading r t map (tail_at sheet t)) u) (get_or sheet.words u 0) ≡ true
          body e =
              let k : ℕ = u - (t + 2) in
              let place : u ≡ t + 2 + (u - (t + 2)) = omega arith in
              let within : 2 + (u - (t + 2)) < size_by (Some map) (tail_at sheet t) = omega arith in
              ap (λ (v : ℕ). accepts refers (role_at (object_reading r t map (tail_at sheet t)) v) (get_or sheet.words v 0)) place
              ∙ ap (λ (role : Role). accepts refers role (get_or sheet.words (t + 2 + (u - (t + 2))) 0)) (role_body r t map (tail_at sheet t) at ends (u - (t + 2)) within)
              ∙ body_accepts refers map (tail_at sheet t) (u - (t + 2)) (get_or sheet.words (t + 2 + (u - (t + 2))) 0) within
              (λ p. form.references t (u - (t + 2)) is (subst (λ (m : Option Fields). IsReferenceIn m (tail_at sheet t) (u - (t + 2))) (sym of) p))
              (λ j p. form.padding t j (u - (t + 2)) is (subst (λ (m : Option Fields). IsTailBytes m (tail_at sheet t) j (u - (t + 2))) (sym of) p))

      object : (t : ℕ) → is_start sheet t ≡ true → IsObject catalog refers (λ t. get_or sheet.words t 0) (is_start sheet) r t
      object t is =
          let whole = form.laid.whole t is in
          let typed = some_map (map_at catalog sheet t) (tail_at sheet t) whole.1 in
          let size : size_at catalog sheet t ≡ size_by (Some typed.0) (tail_at sheet t) = ap (λ (m : Option Fields). size_by m (tail_at sheet t)) typed.1 in
          let ends : t + size_by (Some typed.0) (tail_at sheet t) ≤ r.end = omega (arith, whole.2, size, end) in
          record {
            map = typed.0;
            of = typed.1;
            sound = form.heads t typed.0 is typed.1;
            ends = ends;
            alone = λ u above below. form.laid.apart t u is above (omega (arith, size));
            follows = λ more. ap (λ (n : ℕ). is_start sheet (t + n)) (sym size) ∙ form.laid.next t is (omega (arith, size, end));
            parts = part t typed.0 is whole.0 typed.1 ends;
          }

  -- the sixteen places of roots are references
  root_reference : (slot : ℕ) → slot < 16 → is_reference roots_map slot ≡ true
  unfolding is_reference
  root_reference slot low = agree_below_at (λ s. is_reference roots_map s) (λ s. true) 16 slot refl low

  role_root : (slot : ℕ) → slot < 16 → role_at (reading_to 18 18) (2 + slot) ≡ Reference
  role_root slot low =
      role_part (reading_to 18 18) (2 + slot) (omega arith) (omega arith) (λ e. omega arith)
      ∙ cond-false (2 + slot == 1) _ _ (ne_eqb (2 + slot) 1 (λ e. omega arith))
      ∙ ap (body_role roots_map 0) place
      ∙ (body_reference roots_map 0 slot (inl (low, root_reference slot low))).0
    where
      place : 2 + slot - 2 ≡ slot
      place = omega arith

  pub roots_from : length sheet.words ≡ 512 → length sheet.starts ≡ 512 → is_page_head 2 (get_or sheet.words 0 0) ≡ true → get_or sheet.words 1 0 ≡ 0
      → ((s : ℕ) → is_start sheet s ≡ true → 2 ≤ s)
      → Onward catalog refers (λ t. get_or sheet.words t 0) (is_start sheet) (reading_to 18 18) 2 → HasRoots refers sheet
  roots_from words starts head second low on = record {
    words = words;
    starts = starts;
    head = head;
    second = second;
    roots = λ slot below. ap (λ (role : Role). accepts refers role (get_or sheet.words (2 + slot) 0)) (sym (role_root slot below)) ∙ on.parts (2 + slot) (omega arith) (omega arith);
    rest = λ i past. on.rest i (omega arith) past;
    empty = λ s. elim (cases_Bool (is_start sheet s)) [ inl is ↦ absurd (nowhere s is) | inr is ↦ is ];
  }
    where
      nowhere : (s : ℕ) → is_start sheet s ≡ true → ⊥
      nowhere s is = elim (cases_lt s 18) [
        | inl below ↦ false≢true (sym (on.here s (low s is) below) ∙ is)
        | inr past ↦ (let o = on.objects s (low s is) is in absurd (omega (arith, o.ends)))
      ]

  pub roots_onward : HasRoots refers sheet → Onward catalog refers (λ t. get_or sheet.words t 0) (is_start sheet) (reading_to 18 18) 2
  roots_onward form = record {
    here = λ t from until. form.empty t;
    after = λ below. absurd (omega arith);
    parts = λ t from until. root t from until;
    objects = λ t from is. absurd (false≢true (sym (form.empty t) ∙ is));
    rest = λ t from past. form.rest t past;
  }
    where
      root : (t : ℕ) → 2 ≤ t → t < 18 → accepts refers (role_at (reading_to 18 18) t) (get_or sheet.words t 0) ≡ true
      root t from until =
          let slot : 2 + (t - 2) ≡ t = omega arith in
          ap (λ (u : ℕ). accepts refers (role_at (reading_to 18 18) u) (get_or sheet.words u 0)) (sym slot)
          ∙ ap (λ (role : Role). accepts refers role (get_or sheet.words (2 + (t - 2)) 0)) (role_root (t - 2) (omega arith))
          ∙ form.roots (t - 2) (omega arith)
