-- Pages of a record that are read one after another, and the table of their offsets.
use Rattle.std.proofs.Common.{◌≡◌, ◌⊎◌, ⊎_elim, inl, inr, ◌||◌, All, ◌+◌, ◌*◌, ◌-◌, ◌^◌, ◌<◌, ◌≤◌, ◌==◌, if◌then◌else◌, ℕ, suc, Bool, true, false, List, [], ◌∷◌, ◌++◌, map, length, take, drop, get_or, set, Option, Some, None, refl, sym, ◌∙◌, ap, arith, append_assoc}
use Rattle.std.specs.Int.{w32}
use Rattle.std.specs.List.{list_any}
use Rattle.std.proofs.lemmas.Bool.{cases_eq, eq-eqb, eqb-true, ne_eqb}
use Rattle.std.proofs.lemmas.List.Elements.{All-head, All-tail}
use Rattle.std.proofs.lemmas.List.{take_at, map_push, get_or-set_same, get_or-set_other}
use Rattle.pm3_journal.specs.Format.{PagePart, Image, page_in, parts_size}
use Rattle.pm3_journal.specs.Findings.{HasParts}
use Rattle.pm3_journal.specs.Offsets.{offset_in, has_offset, AreLow, AreHeld, AreNoted}
use Rattle.pm3_journal.specs.Summaries.{Summary, has_page}
use Rattle.pm3_types.specs.Bytes.{number_at, piece}
use Rattle.pm3_journal.specs.Reading.{Parts, Bad, Good, part_at, with_part, parts_at}
use Rattle.pm3_journal.specs.RecordFront.{part_departure}

-- parts before others
abbrev pub before_parts : List PagePart → Parts → Parts
before_parts done (Bad place) = Bad place
before_parts done (Good parts) = Good (done ++ parts)

before_none : (p : Parts) → p ≡ before_parts [] p
before_none (Bad place) = refl
before_none (Good parts) = refl

one_before : (at : ℕ) (part : PagePart) (more : Parts) → with_part at None part more ≡ before_parts (part ∷ []) more
one_before at part (Bad place) = refl
one_before at part (Good parts) = refl

two_before : (done : List PagePart) (part : PagePart) (more : Parts) → before_parts done (before_parts (part ∷ []) more) ≡ before_parts (done ++ part ∷ []) more
two_before done part (Bad place) = refl
two_before done part (Good parts) = ap Good (sym (append_assoc done (part ∷ []) parts))

offset_push : (page at number : ℕ) (image : List ℕ) (done : List PagePart) (was : Option ℕ) → offset_in page at (done ++ Image number image ∷ []) was ≡ (if number == page then Some (at + parts_size done + 8) else offset_in page at done was)
offset_push page at number image [] was =
    let here : at + 8 ≡ at + 0 + 8 = omega arith in
    ap (λ (p : ℕ). if number == page then Some p else was) here
offset_push page at number image (Image first other ∷ done) was =
    let there : at + 4104 + parts_size done + 8 ≡ at + (4104 + parts_size done) + 8 = omega arith in
    offset_push page (at + 4104) number image done (if first == page then Some (at + 8) else was) ∙ ap (λ (p : ℕ). if number == page then Some p else offset_in page (at + 4104) done (if first == page then Some (at + 8) else was)) there

table_set : (table : List (Option ℕ)) (number page : ℕ) (value : Option ℕ) → number < length table → get_or (set table number value) page None ≡ (if number == page then value else get_or table page None)
table_set table number page value within = ⊎_elim same other (cases_eq number page)
  where
    same : number ≡ page → get_or (set table number value) page None ≡ (if number == page then value else get_or table page None)
    same is = ap (λ (p : ℕ). get_or (set table number value) p None) (sym is) ∙ get_or-set_same table number value None within ∙ sym (ap (λ (b : Bool). if b then value else get_or table page None) (eq-eqb number page is))

    other : (number ≡ page → ⊥) → get_or (set table number value) page None ≡ (if number == page then value else get_or table page None)
    other differ = get_or-set_other table number page value None (λ is. differ (sym is)) ∙ sym (ap (λ (b : Bool). if b then value else get_or table page None) (ne_eqb number page differ))

chosen_low : (b : Bool) (limit first place : ℕ) (was : Option ℕ) → first + 4096 < limit → (was ≡ Some place → place + 4096 < limit) → (if b then Some first else was) ≡ Some place → place + 4096 < limit
chosen_low true limit first place was less before is =
    let same : first ≡ place = cc is in
    omega (arith, same, less)
chosen_low false limit first place was less before is = before is

-- one place more, which is low
pub low_set : (table : List (Option ℕ)) (number place : ℕ) → number < length table → place + 4096 < 2 ^ 64 → AreLow table → AreLow (set table number (Some place))
low_set table number place within less low page found is =
    chosen_low (number == page) (2 ^ 64) place found (get_or table page None) less (low page found) (sym (table_set table number page (Some place) within) ∙ is)

-- a table of no offsets
pub low_blank : (table : List (Option ℕ)) → ((page : ℕ) → get_or table page None ≡ None) → AreLow table
low_blank table blank page place is = absurd (cc (blank page, is))

-- a table that was lent, after which it has as many cells
pub whole_table : (len : ℕ) (new old : List (Option ℕ)) → length new ≡ len → take len (new ++ drop (length new) old) ≡ new
whole_table len new old whole = take_at new (drop (length new) old) len whole

-- the pages below the index i were read
pub record PartsSoFar (count pages at i last : ℕ) (bytes numbers : List ℕ) (old new : List (Option ℕ)) : Type 0 where
  pub done : List PagePart
  pub reading : parts_at count pages 1 at bytes ≡ before_parts done (parts_at (count - i) pages last (at + 4104 * i) bytes)
  pub size : parts_size done ≡ 4104 * i
  pub numbers_are : numbers ≡ map page_in done
  pub offsets_are : (page : ℕ) → get_or new page None ≡ offset_in page at done (get_or old page None)

pub parts_start : (count pages at : ℕ) (bytes numbers : List ℕ) (old : List (Option ℕ)) → numbers ≡ [] → PartsSoFar count pages at 0 1 bytes numbers old old
parts_start count pages at bytes numbers old none =
    let all : count ≡ count - 0 = omega arith in
    let here : at ≡ at + 4104 * 0 = omega arith in
    record {
      done = [];
      reading = before_none (parts_at count pages 1 at bytes) ∙ ap (λ (n : ℕ). before_parts [] (parts_at n pages 1 at bytes)) all ∙ ap (λ (a : ℕ). before_parts [] (parts_at (count - 0) pages 1 a bytes)) here;
      size = refl;
      numbers_are = none;
      offsets_are = λ page. refl;
    }

module _ (count pages at i last here : ℕ) (bytes numbers : List ℕ) (old new : List (Option ℕ)) (so_far : PartsSoFar count pages at i last bytes numbers old new) (here_is : here ≡ at + 4104 * i) where
  unrolled : i < count → parts_at (count - i) pages last (at + 4104 * i) bytes ≡ with_part here (part_departure pages last (piece here 8 bytes)) (part_at here bytes) (parts_at (count - (i + 1)) pages (number_at w32 0 (piece here 8 bytes)) (here + 4104) bytes)
  unrolled less =
      let one : count - i ≡ suc (count - (i + 1)) = omega arith in
      ap (λ (n : ℕ). parts_at n pages last (at + 4104 * i) bytes) one ∙ ap (λ (a : ℕ). parts_at (suc (count - (i + 1))) pages last a bytes) (sym here_is)

  pub parts_bad : (field : ℕ) → i < count → part_departure pages last (piece here 8 bytes) ≡ Some field → parts_at count pages 1 at bytes ≡ Bad (here + field)
  parts_bad field less damaged =
      so_far.reading ∙ ap (before_parts so_far.done) (unrolled less ∙ ap (λ (d : Option ℕ). with_part here d (part_at here bytes) (parts_at (count - (i + 1)) pages (number_at w32 0 (piece here 8 bytes)) (here + 4104) bytes)) damaged)

  pub parts_step : (number : ℕ) (numbers_now : List ℕ) → i < count → part_departure pages last (piece here 8 bytes) ≡ None → number ≡ number_at w32 0 (piece here 8 bytes) → number < length new → numbers_now ≡ numbers ++ number ∷ [] → PartsSoFar count pages at (i + 1) number bytes numbers_now old (set new number (Some (here + 8)))
  parts_step number numbers_now less fine is within pushed = record {
    done = so_far.done ++ Image number (piece (here + 8) 4096 bytes) ∷ [];
    reading =
        so_far.reading ∙ ap (before_parts so_far.done) (unrolled less ∙ ap (λ (d : Option ℕ). with_part here d (part_at here bytes) (parts_at (count - (i + 1)) pages (number_at w32 0 (piece here 8 bytes)) (here + 4104) bytes)) fine
        ∙ ap (λ (n : ℕ). with_part here None (Image n (piece (here + 8) 4096 bytes)) (parts_at (count - (i + 1)) pages n (here + 4104) bytes)) (sym is)
        ∙ ap (λ (a : ℕ). with_part here None (Image number (piece (here + 8) 4096 bytes)) (parts_at (count - (i + 1)) pages number a bytes)) further
        ∙ one_before here (Image number (piece (here + 8) 4096 bytes)) (parts_at (count - (i + 1)) pages number (at + 4104 * (i + 1)) bytes))
        ∙ two_before so_far.done (Image number (piece (here + 8) 4096 bytes)) (parts_at (count - (i + 1)) pages number (at + 4104 * (i + 1)) bytes);
    size = size_push so_far.done ∙ (omega (arith, so_far.size));
    numbers_are = pushed ∙ ap (λ (l : List ℕ). l ++ number ∷ []) so_far.numbers_are ∙ sym (map_push page_in so_far.done (Image number (piece (here + 8) 4096 bytes)));
    offsets_are = λ page.
        table_set new number page (Some (here + 8)) within ∙ ap (λ (o : Option ℕ). if number == page then Some (here + 8) else o) (so_far.offsets_are page)
        ∙ ap (λ (p : ℕ). if number == page then Some p else offset_in page at so_far.done (get_or old page None)) place ∙ sym (offset_push page at number (piece (here + 8) 4096 bytes) so_far.done (get_or old page None));
  }
    where
      further : here + 4104 ≡ at + 4104 * (i + 1)
      further = omega (arith, here_is)

      place : here + 8 ≡ at + parts_size so_far.done + 8
      place = omega (arith, here_is, so_far.size)

      size_push : (done : List PagePart) → parts_size (done ++ Image number (piece (here + 8) 4096 bytes) ∷ []) ≡ parts_size done + 4104
      size_push [] = refl
      size_push (Image first image ∷ done) = omega (arith, size_push done)

  pub parts_end : count ≤ i → HasParts count pages at bytes numbers old new
  parts_end all =
      let none : count - i ≡ 0 = omega arith in
      record {
        parts = so_far.done ++ [];
        are = so_far.reading ∙ ap (λ (n : ℕ). before_parts so_far.done (parts_at n pages last (at + 4104 * i) bytes)) none;
        numbers_are = so_far.numbers_are ∙ ap (map page_in) (sym (nothing_behind so_far.done));
        offsets_are = λ page. so_far.offsets_are page ∙ ap (λ (l : List PagePart). offset_in page at l (get_or old page None)) (sym (nothing_behind so_far.done));
      }
    where
      nothing_behind : (l : List PagePart) → l ++ [] ≡ l
      nothing_behind [] = refl
      nothing_behind (x ∷ l) = ap (λ (m : List PagePart). x ∷ m) (nothing_behind l)

bool_cases : (b : Bool) → (b ≡ true) ⊎ (b ≡ false)
bool_cases true = inl refl
bool_cases false = inr refl

or_true : (b : Bool) → (b || true) ≡ true
or_true true = refl
or_true false = refl

or_false : (b : Bool) → (b || false) ≡ b
or_false true = refl
or_false false = refl

or_swap : (a b : Bool) → (a || b) ≡ (b || a)
or_swap true b = sym (or_true b)
or_swap false b = sym (or_false b)

or_assoc : (a b c : Bool) → (a || (b || c)) ≡ ((a || b) || c)
or_assoc true b c = refl
or_assoc false b c = refl

or_cases : (a b : Bool) → (a || b) ≡ true → (a ≡ true) ⊎ (b ≡ true)
or_cases true b is = inl refl
or_cases false b is = inr is

any_push : {A : Type 0} (test : A → Bool) (xs : List A) (x : A) → list_any test (xs ++ x ∷ []) ≡ (list_any test xs || test x)
any_push test [] x = or_false (test x)
any_push test (first ∷ xs) x = ap (λ (b : Bool). test first || b) (any_push test xs x) ∙ or_assoc (test first) (list_any test xs) (test x)

-- one page more is noted
pub noted_more : (numbers now : List ℕ) (old new : List (Option ℕ)) (number place : ℕ) → number < length new → AreNoted numbers old new → now ≡ numbers ++ number ∷ [] → AreNoted now old (set new number (Some place))
noted_more numbers now old new number place within noted pushed page =
    ap has_offset (table_set new number page (Some place) within) ∙ ⊎_elim here elsewhere (bool_cases (number == page))
  where
    more : list_any (λ q. q == page) now ≡ (list_any (λ q. q == page) numbers || (number == page))
    more = ap (list_any (λ q. q == page)) pushed ∙ any_push (λ q. q == page) numbers number

    here : (number == page) ≡ true → has_offset (if number == page then Some place else get_or new page None) ≡ (list_any (λ q. q == page) now || has_offset (get_or old page None))
    here is =
        ap (λ (b : Bool). has_offset (if b then Some place else get_or new page None)) is
        ∙ sym (ap (λ (b : Bool). b || has_offset (get_or old page None)) (more ∙ ap (λ (b : Bool). list_any (λ q. q == page) numbers || b) is ∙ or_true (list_any (λ q. q == page) numbers)))

    elsewhere : (number == page) ≡ false → has_offset (if number == page then Some place else get_or new page None) ≡ (list_any (λ q. q == page) now || has_offset (get_or old page None))
    elsewhere is =
        ap (λ (b : Bool). has_offset (if b then Some place else get_or new page None)) is ∙ noted page
        ∙ sym (ap (λ (b : Bool). b || has_offset (get_or old page None)) (more ∙ ap (λ (b : Bool). list_any (λ q. q == page) numbers || b) is ∙ or_false (list_any (λ q. q == page) numbers)))

-- no page is noted yet
pub noted_none : (numbers : List ℕ) (old : List (Option ℕ)) → numbers ≡ [] → AreNoted numbers old old
noted_none numbers old none page = sym (ap (λ (l : List ℕ). list_any (λ q. q == page) l || has_offset (get_or old page None)) none)

-- a record more, whose pages were noted
pub held_more : (summaries now : List Summary) (s : Summary) (old new : List (Option ℕ)) → AreHeld summaries old → AreNoted s.pages old new → All (λ page. 2 ≤ page) s.pages → now ≡ summaries ++ s ∷ [] → AreHeld now new
held_more summaries now s old new held noted above pushed = record {
  has = λ page.
      noted page ∙ ap (λ (b : Bool). list_any (λ q. q == page) s.pages || b) (held.has page) ∙ or_swap (list_any (λ q. q == page) s.pages) (has_page summaries page)
      ∙ sym (any_push (λ (x : Summary). list_any (λ q. q == page) x.pages) summaries s) ∙ ap (λ (l : List Summary). has_page l page) (sym pushed);
  above = λ page is.
      let split : (has_page summaries page || list_any (λ q. q == page) s.pages) ≡ true = sym (any_push (λ (x : Summary). list_any (λ q. q == page) x.pages) summaries s) ∙ ap (λ (l : List Summary). has_page l page) (sym pushed) ∙ is in
      ⊎_elim (held.above page) (λ here. among s.pages above page here) (or_cases (has_page summaries page) (list_any (λ q. q == page) s.pages) split);
}
  where
    among : (pages : List ℕ) → All (λ page. 2 ≤ page) pages → (page : ℕ) → list_any (λ q. q == page) pages ≡ true → 2 ≤ page
    among [] all page is = absurd (cc is)
    among (first ∷ pages) all page is = ⊎_elim (λ (same : (first == page) ≡ true). omega (arith, eqb-true first page same, All-head (λ n. 2 ≤ n) first pages all)) (λ more. among pages (All-tail (λ n. 2 ≤ n) first pages all) page more) (or_cases (first == page) (list_any (λ q. q == page) pages) is)

-- no record yet
pub held_none : (summaries : List Summary) (offsets : List (Option ℕ)) → summaries ≡ [] → ((page : ℕ) → get_or offsets page None ≡ None) → AreHeld summaries offsets
held_none summaries offsets none blank = record {
  has = λ page. ap has_offset (blank page) ∙ sym (ap (λ (l : List Summary). has_page l page) none);
  above = λ page is. absurd (cc (sym (ap (λ (l : List Summary). has_page l page) none) ∙ is));
}
