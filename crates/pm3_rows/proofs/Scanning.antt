-- What a scan leaves in a log.
use Rattle.std.proofs.Common.{◌≡◌, ℕ, zero, suc, ◌+◌, ◌/◌, ◌%◌, ◌<◌, ◌≤◌, ◌&&◌, not, Bool, true, false, if◌then◌else◌, List, [], ◌∷◌, ◌++◌, length, get_or, Some, refl, sym, ap, ◌∙◌, subst, arith}
use mathlib.Core.Logic.{dite}
use native.Mathlib.Decide.{ℕ_discrete}
use Rattle.pm3_core.specs.declared.events.TheConstants.{PLACES, ROW_PLACES}
use Rattle.pm3_core.specs.Machine.{put, spot}
use Rattle.pm3_core.specs.Naming.{Names, names}
use Rattle.pm3_core.proofs.Names.{names_not}
use Rattle.pm3_table.specs.declared.view.Deed.{Deed}
use Rattle.pm3_table.specs.declared.view.Deed.TheVariants.{Found}
use Rattle.pm3_table.specs.Deeds.{marks_of, reads_of, IsClearedIn}
use Rattle.pm3_table.specs.Reads.{read_of, marked_then}
use Rattle.pm3_table.proofs.Put.{put_at, put_else, put_cases}
use Rattle.pm3_rows.specs.Scans.{scanned}

-- one word more
pub scanned_more : (n k : ℕ) (ws : List ℕ) (w : ℕ) (log : List Deed) → k ≡ n + length ws → scanned n (ws ++ w ∷ []) log ≡ Found (k / ROW_PLACES) (k % ROW_PLACES) w ∷ scanned n ws log
scanned_more n k [] w log is = ap (λ (i : ℕ). Found (i / ROW_PLACES) (i % ROW_PLACES) w ∷ log) (let e : n ≡ k = omega (arith, is) in e)
scanned_more n k (x ∷ xs) w log is = scanned_more (n + 1) k xs w (Found (n / ROW_PLACES) (n % ROW_PLACES) x ∷ log) (omega (arith, is))

-- a scan marks nothing
pub scanned_marks : (n : ℕ) (ws : List ℕ) (log : List Deed) (page : ℕ) → marks_of (scanned n ws log) page ≡ marks_of log page
scanned_marks n [] log page = refl
scanned_marks n (w ∷ ws) log page = scanned_marks (n + 1) ws (Found (n / ROW_PLACES) (n % ROW_PLACES) w ∷ log) page

where_found : (n : ℕ) → spot (n / ROW_PLACES) (n % ROW_PLACES) ≡ n
where_found n = omega arith

one_more : (pages : ℕ) (log : List Deed) (row place w page i : ℕ) → reads_of pages log page i ≡ true → reads_of pages (Found row place w ∷ log) page i ≡ true
one_more pages log row place w page i is = chosen (marks_of log page && not (names pages w page))
  where
    chosen : (b : Bool) → (if b then put (reads_of pages log page) (spot row place) true else reads_of pages log page) i ≡ true
    chosen true = put_cases (λ x. x ≡ true) (reads_of pages log page) (spot row place) true i (λ _. refl) (λ _. is)
    chosen false = is

read_now : (pages : ℕ) (log : List Deed) (row place w page : ℕ) → marks_of log page ≡ true → names pages w page ≡ false → reads_of pages (Found row place w ∷ log) page (spot row place) ≡ true
read_now pages log row place w page marked not_named =
    let test : (marks_of log page && not (names pages w page)) ≡ true = λ i. marked i && not (not_named i) in
    ap (λ (b : Bool). (if b then put (reads_of pages log page) (spot row place) true else reads_of pages log page) (spot row place)) test
    ∙ put_cases (λ x. x ≡ true) (reads_of pages log page) (spot row place) true (spot row place) (λ _. refl) (λ o. absurd (o refl))

-- what was read off stays so
stays_read : (pages n : ℕ) (ws : List ℕ) (log : List Deed) (page i : ℕ) → reads_of pages log page i ≡ true → reads_of pages (scanned n ws log) page i ≡ true
stays_read pages n [] log page i is = is
stays_read pages n (w ∷ ws) log page i is = stays_read pages (n + 1) ws (Found (n / ROW_PLACES) (n % ROW_PLACES) w ∷ log) page i (one_more pages log (n / ROW_PLACES) (n % ROW_PLACES) w page i is)

-- each place whose word does not name a marked page is read off for it
pub scanned_reads : (pages n : ℕ) (ws : List ℕ) (log : List Deed) (page : ℕ) → marks_of log page ≡ true → ((i : ℕ) → i < length ws → Names pages (get_or ws i 0) page → ⊥)
    → (i : ℕ) → n ≤ i → i < n + length ws → reads_of pages (scanned n ws log) page i ≡ true
scanned_reads pages n [] log page marked free i low high = absurd (omega arith)
scanned_reads pages n (w ∷ ws) log page marked free i low high =
    let deed : List Deed = Found (n / ROW_PLACES) (n % ROW_PLACES) w ∷ log in
    dite (ℕ_discrete i n)
    (λ e. stays_read pages (n + 1) ws deed page i (subst (λ (k : ℕ). reads_of pages deed page k ≡ true) (where_found n ∙ sym e)
    (read_now pages log (n / ROW_PLACES) (n % ROW_PLACES) w page marked (names_not pages w page (free 0 (omega arith))))))
    (λ o. scanned_reads pages (n + 1) ws deed page marked (λ k b. free (suc k) (omega (arith, b))) i (omega (arith, o, low)) (omega (arith, high)))

pub scanned_clears : (pages : ℕ) (ws : List ℕ) (log : List Deed) (page : ℕ) → length ws ≡ PLACES → marks_of log page ≡ true → ((i : ℕ) → i < PLACES → Names pages (get_or ws i 0) page → ⊥)
    → IsClearedIn pages (scanned 0 ws log) page
scanned_clears pages ws log page full marked free =
    (scanned_marks 0 ws log page ∙ marked, λ i low. scanned_reads pages 0 ws log page marked (λ k b. free k (omega (arith, b, full))) i (omega arith) (omega (arith, low, full)))

-- what was read last before a place that is read now stays
read_stays : (n i : ℕ) (ws : List ℕ) (log : List Deed) → i < n → read_of (scanned n ws log) i ≡ read_of log i
read_stays n i [] log low = refl
read_stays n i (w ∷ ws) log low =
    read_stays (n + 1) i ws (Found (n / ROW_PLACES) (n % ROW_PLACES) w ∷ log) (omega (arith, low))
    ∙ put_else (read_of log) (spot (n / ROW_PLACES) (n % ROW_PLACES)) (Some w) i (λ e. let w : spot (n / ROW_PLACES) (n % ROW_PLACES) ≡ n = where_found n in absurd (omega (arith, low, e, w)))

-- each word of a scan is the one that was read last at its place
scanned_words : (n k : ℕ) (ws : List ℕ) (log : List Deed) → k < length ws → read_of (scanned n ws log) (n + k) ≡ Some (get_or ws k 0)
scanned_words n k [] log low = absurd (omega arith)
scanned_words n zero (w ∷ ws) log low =
    let at : n + 0 ≡ n = omega arith in
    ap (read_of (scanned (n + 1) ws (Found (n / ROW_PLACES) (n % ROW_PLACES) w ∷ log))) at
    ∙ (read_stays (n + 1) n ws (Found (n / ROW_PLACES) (n % ROW_PLACES) w ∷ log) (omega arith)
    ∙ put_at (read_of log) (spot (n / ROW_PLACES) (n % ROW_PLACES)) (Some w) n (sym (where_found n)))
scanned_words n (suc k) (w ∷ ws) log low =
    let at : n + suc k ≡ n + 1 + k = omega arith in
    ap (read_of (scanned (n + 1) ws (Found (n / ROW_PLACES) (n % ROW_PLACES) w ∷ log))) at
    ∙ scanned_words (n + 1) k ws (Found (n / ROW_PLACES) (n % ROW_PLACES) w ∷ log) (omega (arith, low))

pub scanned_word : (n : ℕ) (ws : List ℕ) (log : List Deed) → n < length ws → read_of (scanned 0 ws log) n ≡ Some (get_or ws n 0)
scanned_word n ws log low = ap (read_of (scanned 0 ws log)) (let e : n ≡ 0 + n = omega arith in e) ∙ scanned_words 0 n ws log low

-- the pages marked when the last word of a scan was read are those that were marked before it
pub scanned_then : (n : ℕ) (w : ℕ) (ws : List ℕ) (log : List Deed) (page : ℕ) → marked_then (scanned n (w ∷ ws) log) page ≡ marks_of log page
scanned_then n w [] log page = refl
scanned_then n w (x ∷ xs) log page = scanned_then (n + 1) x xs (Found (n / ROW_PLACES) (n % ROW_PLACES) w ∷ log) page

pub full_then : (ws : List ℕ) (log : List Deed) (page : ℕ) → length ws ≡ PLACES → marked_then (scanned 0 ws log) page ≡ marks_of log page
full_then [] log page full = absurd (omega (arith, full))
full_then (w ∷ ws) log page full = scanned_then 0 w ws log page
