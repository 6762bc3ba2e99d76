-- What lies ahead of a word of a page, while the page is read.
use Rattle.std.proofs.Common.{◌≡◌, ◌<◌, ◌≤◌, ◌+◌, ◌∙◌, inl, inr, ℕ, suc, min, Bool, true, false, List, ◌∷◌, get_or, Some, slice_get, sym, ap, subst, arith}
use Rattle.std.proofs.lemmas.Bool.{cases_eq, false≢true}
use Rattle.pm3_types.specs.Fields.{Fields}
use Rattle.pm3_types.specs.Layout.{type_in, tail_in, size_by}
use Rattle.pm3_types.specs.PageForm.{is_head_of}
use Rattle.pm3_page.specs.declared.roles.Reading.{Reading}
use Rattle.pm3_page.specs.Roles.{role_at}
use Rattle.pm3_page.specs.Scan.{object_reading}
use Rattle.pm3_page.proofs.StepCases.{accepts}

-- an object begins at word t and is whole: its head, where it ends, that no other begins within it, and that one follows it
pub record IsObject (catalog : List Fields) (refers : ℕ → Bool) (word : ℕ → ℕ) (begins : ℕ → Bool) (r : Reading) (t : ℕ) : Type 0 where
  pub map : Fields
  pub of : slice_get catalog (type_in (word t)) ≡ Some map
  pub sound : is_head_of map (word t) ≡ true
  pub ends : t + size_by (Some map) (tail_in (word t)) ≤ r.end
  pub alone : (u : ℕ) → t < u → u < t + size_by (Some map) (tail_in (word t)) → begins u ≡ false
  pub follows : t + size_by (Some map) (tail_in (word t)) < r.end → begins (t + size_by (Some map) (tail_in (word t))) ≡ true
  pub parts : (u : ℕ) → t < u → u < t + size_by (Some map) (tail_in (word t)) → accepts refers (role_at (object_reading r t map (tail_in (word t))) u) (word u) ≡ true

-- from word i on: the rest of the present object, the next one, all those behind it, and zeros
pub record Onward (catalog : List Fields) (refers : ℕ → Bool) (word : ℕ → ℕ) (begins : ℕ → Bool) (r : Reading) (i : ℕ) : Type 0 where
  pub here : (t : ℕ) → i ≤ t → t < r.next → begins t ≡ false
  pub after : r.next < r.end → begins r.next ≡ true
  pub parts : (t : ℕ) → i ≤ t → t < r.next → accepts refers (role_at r t) (word t) ≡ true
  pub objects : (t : ℕ) → i ≤ t → begins t ≡ true → IsObject catalog refers word begins r t
  pub rest : (t : ℕ) → i ≤ t → r.end ≤ t → word t ≡ 0

-- the next object begins ahead, or none does
pub record IsAhead (r : Reading) (i : ℕ) : Type 0 where
  pub low : 2 ≤ i
  pub next : min i r.end ≤ r.next
  pub end : r.next ≤ r.end

module _ (word : ℕ → ℕ) (begins : ℕ → Bool) where
  -- these are the words from i on, and where objects begin among them
  abbrev pub AreWords : ℕ → List ℕ → Type 0
  AreWords i words = (t : ℕ) → get_or words t 0 ≡ word (i + t)

  abbrev pub AreStarts : ℕ → List Bool → Type 0
  AreStarts i starts = (t : ℕ) → get_or starts t false ≡ begins (i + t)

  pub first_word : (i w : ℕ) (words : List ℕ) → AreWords i (w ∷ words) → word i ≡ w
  first_word i w words are = ap word (omega arith) ∙ sym (are 0)

  pub later_words : (i w : ℕ) (words : List ℕ) → AreWords i (w ∷ words) → AreWords (i + 1) words
  later_words i w words are t = are (suc t) ∙ ap word (omega arith)

  pub first_start : (i : ℕ) (b : Bool) (starts : List Bool) → AreStarts i (b ∷ starts) → begins i ≡ b
  first_start i b starts are = ap begins (omega arith) ∙ sym (are 0)

  pub later_starts : (i : ℕ) (b : Bool) (starts : List Bool) → AreStarts i (b ∷ starts) → AreStarts (i + 1) starts
  later_starts i b starts are t = are (suc t) ∙ ap begins (omega arith)

  module _ (catalog : List Fields) (refers : ℕ → Bool) where
    -- behind the end
    pub onward_end : (r : Reading) (i : ℕ) → IsAhead r i → r.end ≤ i → word i ≡ 0 → begins i ≡ false
        → Onward catalog refers word begins r (i + 1) → Onward catalog refers word begins r i
    onward_end r i ahead past zero none more =
        let next : r.end ≤ r.next = omega (arith, ahead.next) in
        record {
          here = λ t from until. absurd (omega (arith, ahead.end));
          after = λ below. absurd (omega arith);
          parts = λ t from until. absurd (omega (arith, ahead.end));
          objects = λ t from is. elim (cases_eq t i) [
            | inl e ↦ absurd (false≢true (sym none ∙ ap begins (sym e) ∙ is))
            | inr apart ↦ more.objects t (omega arith) is
          ];
          rest = λ t from end. elim (cases_eq t i) [ inl e ↦ ap word e ∙ zero | inr apart ↦ more.rest t (omega arith) end ];
        }

    -- within an object
    pub onward_part : (r : Reading) (i : ℕ) → i < r.next → r.next ≤ r.end → accepts refers (role_at r i) (word i) ≡ true → begins i ≡ false
        → Onward catalog refers word begins r (i + 1) → Onward catalog refers word begins r i
    onward_part r i within end accepted none more = record {
      here = λ t from until. elim (cases_eq t i) [ inl e ↦ ap begins e ∙ none | inr apart ↦ more.here t (omega arith) until ];
      after = more.after;
      parts = λ t from until. elim (cases_eq t i) [
        | inl e ↦ ap (λ (u : ℕ). accepts refers (role_at r u) (word u)) e ∙ accepted
        | inr apart ↦ more.parts t (omega arith) until
      ];
      objects = λ t from is. elim (cases_eq t i) [
        | inl e ↦ absurd (false≢true (sym none ∙ ap begins (sym e) ∙ is))
        | inr apart ↦ more.objects t (omega arith) is
      ];
      rest = λ t from past. elim (cases_eq t i) [ inl e ↦ absurd (omega arith) | inr apart ↦ more.rest t (omega arith) past ];
    }

    -- at the head of an object
    pub onward_head : (r : Reading) (i : ℕ) (map : Fields) → i ≡ r.next → i < r.end → slice_get catalog (type_in (word i)) ≡ Some map → is_head_of map (word i) ≡ true
        → i + size_by (Some map) (tail_in (word i)) ≤ r.end → begins i ≡ true
        → Onward catalog refers word begins (object_reading r i map (tail_in (word i))) (i + 1) → Onward catalog refers word begins r i
    onward_head r i map next before of sound ends is more = record {
      here = λ t from until. absurd (omega arith);
      after = λ below. ap begins (sym next) ∙ is;
      parts = λ t from until. absurd (omega arith);
      objects = λ t from start. elim (cases_eq t i) [ inl e ↦ subst (λ (u : ℕ). IsObject catalog refers word begins r u) (sym e) object | inr apart ↦ again t (more.objects t (omega arith) start) ];
      rest = λ t from past. elim (cases_eq t i) [ inl e ↦ absurd (omega arith) | inr apart ↦ more.rest t (omega arith) past ];
    }
      where
        object : IsObject catalog refers word begins r i
        object = record {
          map = map;
          of = of;
          sound = sound;
          ends = ends;
          alone = λ u above below. more.here u (omega arith) below;
          follows = more.after;
          parts = λ u above below. more.parts u (omega arith) below;
        }

        again : (t : ℕ) → IsObject catalog refers word begins (object_reading r i map (tail_in (word i))) t → IsObject catalog refers word begins r t
        again t o = record {
          map = o.map;
          of = o.of;
          sound = o.sound;
          ends = o.ends;
          alone = o.alone;
          follows = o.follows;
          parts = o.parts;
        }
