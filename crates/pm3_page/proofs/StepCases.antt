-- What a step over a word of a page tells of the word.
use Rattle.std.proofs.Common.{◌≡◌, ◌≢◌, ◌<◌, ◌≤◌, ◌+◌, ◌-◌, ◌==◌, ◌||◌, ◌∙◌, ℕ, Bool, true, false, cond, nat_le, nat_lt, List, ◌∷◌, Option, Some, None, Ok, Err, is_some, slice_get, refl, ap, arith}
use Rattle.std.proofs.lemmas.Bool.{cond-true, cond-false, ne_eqb, eq-eqb, le-leb, lt-leb, or_right, or_from, and_parts, leb-true, false≢true}
use Rattle.pm3_types.specs.Fields.{Fields, is_reference}
use Rattle.pm3_types.specs.Layout.{Sheet, type_in, tail_in, size_by}
use Rattle.pm3_types.specs.PageForm.{is_head_of, is_name, is_padded}
use Rattle.pm3_types.specs.declared.type_map.Tail.{Tail}
use Rattle.pm3_types.specs.declared.type_map.Tail.TheVariants.{Empty, Refs}
use Rattle.pm3_types.specs.declared.type_map.Tail.TheVariants as tails
use Rattle.pm3_page.specs.declared.roles.Reading.{Reading}
use Rattle.pm3_page.specs.declared.roles.Role.{Role}
use Rattle.pm3_page.specs.declared.roles.Role.TheVariants.{PageHead, Zero, Head, Name, Number, Reference, Bytes}
use Rattle.pm3_page.specs.declared.steps.Step.{Step}
use Rattle.pm3_page.specs.Roles.{role_at, body_role, tail_role}
use Rattle.pm3_page.specs.Scan.{Read, step_in, head_step, reference_step, object_reading, go_on, put_first, when, plain}

-- a read that went well, taken apart
pub record Continues (o : Option Step) (rest : Reading → Read) (out : Sheet) : Type 0 where
  pub step : Step
  pub is : o ≡ Some step
  pub sheet : Sheet
  pub more : rest step.reading ≡ Ok sheet
  pub whole : out ≡ record { words = step.word ∷ sheet.words; starts = step.begins ∷ sheet.starts }

put_first-Ok : (step : Step) (rest : Reading → Read) (read : Read) (out : Sheet) → rest step.reading ≡ read → put_first step read ≡ Ok out → Continues (Some step) rest out
put_first-Ok step rest (Ok sheet) out ran e = record { step = step; is = refl; sheet = sheet; more = ran; whole = cc }
put_first-Ok step rest (Err n) out ran e = absurd (cc)

pub go_on-Ok : (i : ℕ) (o : Option Step) (rest : Reading → Read) (out : Sheet) → go_on i o rest ≡ Ok out → Continues o rest out
go_on-Ok i None rest out e = absurd (cc)
go_on-Ok i (Some step) rest out e = put_first-Ok step rest (rest step.reading) out refl e

-- the roles of words that belong to the present object or to none
abbrev pub is_part : Role → Bool
is_part PageHead = false
is_part Zero = true
is_part Head = false
is_part Name = true
is_part Number = true
is_part Reference = true
is_part (Bytes left) = true

-- a word has the form of its role, where references meet this test
abbrev pub accepts : (ℕ → Bool) → Role → ℕ → Bool
accepts refers PageHead word = false
accepts refers Zero word = word == 0
accepts refers Head word = false
accepts refers Name word = is_name word
accepts refers Number word = true
accepts refers Reference word = refers word
accepts refers (Bytes left) word = is_padded left word

pub role_end : (r : Reading) (i : ℕ) → 2 ≤ i → r.end ≤ i → role_at r i ≡ Zero
role_end r i low past =
    cond-false (i == 0) _ _ (ne_eqb i 0 (λ e. omega arith))
    ∙ cond-true ((i == 1) || nat_le r.end i) _ _ (or_right (i == 1) (nat_le r.end i) (le-leb r.end i past))

inside : (r : Reading) (i : ℕ) → 2 ≤ i → i < r.end
    → role_at r i ≡ cond (i == r.next) Head (cond (i == r.at + 1) Name (body_role r.map r.tail (i - (r.at + 2))))
inside r i low before =
    cond-false (i == 0) _ _ (ne_eqb i 0 (λ e. omega arith))
    ∙ cond-false ((i == 1) || nat_le r.end i) _ _ (or_from (i == 1) (nat_le r.end i) (ne_eqb i 1 (λ e. omega arith)) (lt-leb r.end i before))

pub role_head : (r : Reading) (i : ℕ) → 2 ≤ i → i < r.end → i ≡ r.next → role_at r i ≡ Head
role_head r i low before next = inside r i low before ∙ cond-true (i == r.next) _ _ (eq-eqb i r.next next)

pub role_part : (r : Reading) (i : ℕ) → 2 ≤ i → i < r.end → i ≢ r.next → role_at r i ≡ cond (i == r.at + 1) Name (body_role r.map r.tail (i - (r.at + 2)))
role_part r i low before apart = inside r i low before ∙ cond-false (i == r.next) _ _ (ne_eqb i r.next apart)

is_part-tail_role : (tail : Tail) (len k : ℕ) → is_part (tail_role tail len k) ≡ true
is_part-tail_role Empty len k = refl
is_part-tail_role Refs len k = refl
is_part-tail_role tails.Bytes len k = refl

is_part-cond : (b : Bool) (x y : Role) → is_part x ≡ true → is_part y ≡ true → is_part (cond b x y) ≡ true
is_part-cond true x y left right = left
is_part-cond false x y left right = right

pub is_part-role : (r : Reading) (i : ℕ) → 2 ≤ i → i < r.end → i ≢ r.next → is_part (role_at r i) ≡ true
is_part-role r i low before apart =
    ap is_part (role_part r i low before apart)
    ∙ is_part-cond (i == r.at + 1) Name _ refl
    (is_part-cond (nat_lt (i - (r.at + 2)) r.map.count) (cond (is_reference r.map (i - (r.at + 2))) Reference Number) _
    (is_part-cond (is_reference r.map (i - (r.at + 2))) Reference Number refl refl)
    (is_part-tail_role r.map.tail r.tail (i - (r.at + 2) - r.map.count)))

-- a step over a word that is a part
pub record IsPlain (refers : ℕ → Bool) (role : Role) (word : ℕ) (r : Reading) (step : Step) : Type 0 where
  pub accepted : accepts refers role word ≡ true
  pub reading : step.reading ≡ r
  pub begins : step.begins ≡ false

when_true : (b : Bool) (x step : Step) → when b x ≡ Some step → (b ≡ true) × (step ≡ x)
when_true true x step e = (refl, cc)
when_true false x step e = absurd (cc)

plain_when : (refers : ℕ → Bool) (role : Role) (word : ℕ) (r : Reading) (b : Bool) (step : Step) → accepts refers role word ≡ b
    → when b (plain r word) ≡ Some step → IsPlain refers role word r step
plain_when refers role word r b step test e =
    let met = when_true b (plain r word) step e in
    record { accepted = test ∙ met.0; reading = ap (λ (s : Step). s.reading) met.1; begins = ap (λ (s : Step). s.begins) met.1 }

module _ (catalog : List Fields) (refer : ℕ → Option ℕ) (page : ℕ) where
  refers : ℕ → Bool
  refers word = is_some (refer word)

  plain_reference : (r : Reading) (word : ℕ) (o : Option ℕ) (step : Step) → refer word ≡ o → reference_step o r ≡ Some step
      → IsPlain (λ w. is_some (refer w)) Reference word r step
  plain_reference r word None step is e = absurd (cc)
  plain_reference r word (Some other) step is e =
      let same : step ≡ plain r other = cc in
      record { accepted = ap is_some is; reading = ap (λ (s : Step). s.reading) same; begins = ap (λ (s : Step). s.begins) same }

  pub part_step : (r : Reading) (i : ℕ) (role : Role) (word : ℕ) (step : Step) → is_part role ≡ true
      → step_in catalog refer page r i role word ≡ Some step → IsPlain (λ w. is_some (refer w)) role word r step
  part_step r i PageHead word step part e = absurd (false≢true part)
  part_step r i Zero word step part e = plain_when _ Zero word r (word == 0) step refl e
  part_step r i Head word step part e = absurd (false≢true part)
  part_step r i Name word step part e = plain_when _ Name word r (is_name word) step refl e
  part_step r i Number word step part e = plain_when _ Number word r true step refl e
  part_step r i Reference word step part e = plain_reference r word (refer word) step refl e
  part_step r i (Bytes left) word step part e = plain_when _ (Bytes left) word r (is_padded left word) step refl e

  -- a word with the form of its role gives a step
  some_reference : (r : Reading) (o : Option ℕ) → is_some o ≡ true → (v : ℕ) × (reference_step o r ≡ Some (plain r v))
  some_reference r None is = absurd (false≢true is)
  some_reference r (Some v) is = (v, refl)

  pub step_part : (r : Reading) (i : ℕ) (role : Role) (word : ℕ) → accepts (λ w. is_some (refer w)) role word ≡ true
      → (v : ℕ) × (step_in catalog refer page r i role word ≡ Some (plain r v))
  step_part r i PageHead word e = absurd (false≢true e)
  step_part r i Zero word e = (word, ap (λ (b : Bool). when b (plain r word)) e)
  step_part r i Head word e = absurd (false≢true e)
  step_part r i Name word e = (word, ap (λ (b : Bool). when b (plain r word)) e)
  step_part r i Number word e = (word, refl)
  step_part r i Reference word e = some_reference r (refer word) e
  step_part r i (Bytes left) word e = (word, ap (λ (b : Bool). when b (plain r word)) e)

-- a step over the head of an object
pub record IsHead (catalog : List Fields) (r : Reading) (i word : ℕ) (step : Step) : Type 0 where
  pub map : Fields
  pub of : slice_get catalog (type_in word) ≡ Some map
  pub sound : is_head_of map word ≡ true
  pub ends : i + size_by (Some map) (tail_in word) ≤ r.end
  pub reading : step.reading ≡ object_reading r i map (tail_in word)
  pub begins : step.begins ≡ true

pub head_step-Some : (catalog : List Fields) (o : Option Fields) (r : Reading) (i word : ℕ) (step : Step) → slice_get catalog (type_in word) ≡ o
    → head_step o r i word ≡ Some step → IsHead catalog r i word step
head_step-Some catalog None r i word step is e = absurd (cc)
head_step-Some catalog (Some map) r i word step is e =
    let met = when_true _ _ step e in
    let tests = and_parts (is_head_of map word) (nat_le (i + size_by (Some map) (tail_in word)) r.end) met.0 in
    record {
      map = map;
      of = is;
      sound = tests.0;
      ends = leb-true _ r.end tests.1;
      reading = ap (λ (s : Step). s.reading) met.1;
      begins = ap (λ (s : Step). s.begins) met.1;
    }
