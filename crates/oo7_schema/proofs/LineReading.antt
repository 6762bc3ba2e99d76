-- A job is read from its line, and a line that is read as a job is that job's.
use Rattle.std.proofs.Common.{◌≡◌, ◌<◌, ◌≤◌, ◌^◌, ℕ, List, [], ◌∷◌, ◌++◌, length, Bool, true, false, cond, Option, None, Some, refl, sym, arith, ap, subst, ◌∙◌, take, drop, nat_lt, take-append-drop}
use Rattle.std.specs.Prelude.{◌&&◌, bytes_eq, find, option_map}
use Rattle.std.specs.List.{AllByRecursion}
use Rattle.std.specs.Fmt.{decimal}
use Rattle.std.specs.Str.Parse.{digits_value}
use Rattle.std.proofs.lemmas.Bool.Decides.{nat_tests}
use Rattle.std.proofs.lemmas.Fmt.{decimal_is_IsNumeral, length-decimal-le}
use Rattle.std.proofs.lemmas.Slice.Eq.{bytes_eq-Decides}
use Rattle.oo7_schema.specs.declared.jobs.Extent.TheVariants.{A, B, C}
use Rattle.oo7_schema.specs.declared.jobs.Walk.TheVariants.{T1, T2, T3, T6, T8, T9}
use Rattle.oo7_schema.specs.declared.jobs.Query.TheVariants.{Q1, Q2, Q3, Q4, Q5, Q7}
use Rattle.oo7_schema.specs.declared.jobs.Job.{Job}
use Rattle.oo7_schema.specs.declared.jobs.Job.TheVariants.{Traverse, Ask, Insert, Delete}
use Rattle.oo7_schema.specs.JobLines.{job_text, seedless, seeded, seed_of, with_seed, or_else}
use Rattle.oo7_schema.specs.RunLaws.{HasSeed, JobsAreRead, LinesAreJobs, LinesAreShort}
use Rattle.oo7_schema.proofs.Testing.{below, and_first, and_second}

under : (seed : ℕ) → seed < 2 ^ 64 → nat_lt seed (2 ^ 64) ≡ true
under seed low = grind (arith, nat_tests)

seed_read : (seed : ℕ) → seed < 2 ^ 64 → seed_of (decimal seed) ≡ Some seed
seed_read seed low =
    let value : digits_value 10 (decimal seed) ≡ seed = (decimal_is_IsNumeral seed low).1 in
    ap (λ (n : ℕ). cond (bytes_eq (decimal seed) (decimal n) && nat_lt n (2 ^ 64)) (Some n) None) value
    ∙ (λ i. cond ((bytes_eq-Decides (decimal seed) (decimal seed)).1 refl i && under seed low i) (Some seed) None)

pub jobs_are_read : JobsAreRead
jobs_are_read (Traverse T1) has = refl
jobs_are_read (Traverse (T2 A)) has = refl
jobs_are_read (Traverse (T2 B)) has = refl
jobs_are_read (Traverse (T2 C)) has = refl
jobs_are_read (Traverse (T3 A)) has = refl
jobs_are_read (Traverse (T3 B)) has = refl
jobs_are_read (Traverse (T3 C)) has = refl
jobs_are_read (Traverse T6) has = refl
jobs_are_read (Traverse T8) has = refl
jobs_are_read (Traverse T9) has = refl
jobs_are_read (Ask (Q1 seed)) has = ap (option_map (λ (n : ℕ). Ask (Q1 n))) (seed_read seed has)
jobs_are_read (Ask Q2) has = refl
jobs_are_read (Ask Q3) has = refl
jobs_are_read (Ask (Q4 seed)) has = ap (option_map (λ (n : ℕ). Ask (Q4 n))) (seed_read seed has)
jobs_are_read (Ask Q5) has = refl
jobs_are_read (Ask Q7) has = refl
jobs_are_read (Insert seed) has = ap (option_map (λ (n : ℕ). Insert n)) (seed_read seed has)
jobs_are_read (Delete seed) has = ap (option_map (λ (n : ℕ). Delete n)) (seed_read seed has)

-- a line is a job's
abbrev Names : List ℕ → Job → Type 0
Names line job = (line ≡ job_text job) × HasSeed job

found_names : (line : List ℕ) (jobs : List Job) → AllByRecursion HasSeed jobs → (job : Job) → find (λ (j : Job). bytes_eq (job_text j) line) jobs ≡ Some job → Names line job
found_names line [] all job is = cc
found_names line (j ∷ jobs) all job is = by_test (bytes_eq (job_text j) line) refl is (found_names line jobs all.1 job)
  where
    by_test : (b : Bool) → bytes_eq (job_text j) line ≡ b → cond b (Some j) (find (λ (k : Job). bytes_eq (job_text k) line) jobs) ≡ Some job
        → (find (λ (k : Job). bytes_eq (job_text k) line) jobs ≡ Some job → Names line job) → Names line job
    by_test true same is later =
        let here : j ≡ job = cc in
        subst (Names line) here (sym ((bytes_eq-Decides (job_text j) line).0 same), all.0)
    by_test false other is later = later is

-- the text of a job with a seed is its form and the seed, and it has one
abbrev Forms : List ℕ × (ℕ → Job) → Type 0
Forms form = (seed : ℕ) → (job_text (form.1 seed) ≡ form.0 ++ decimal seed) × (seed < 2 ^ 64 → HasSeed (form.1 seed))

record Seed (text : List ℕ) (seed : ℕ) : Type 0 where
  written : text ≡ decimal seed
  low : seed < 2 ^ 64

seed_is : (text : List ℕ) (seed : ℕ) → seed_of text ≡ Some seed → Seed text seed
seed_is text seed is = by_test (bytes_eq text (decimal (digits_value 10 text)) && nat_lt (digits_value 10 text) (2 ^ 64)) refl is
  where
    by_test : (b : Bool) → (bytes_eq text (decimal (digits_value 10 text)) && nat_lt (digits_value 10 text) (2 ^ 64)) ≡ b → cond b (Some (digits_value 10 text)) None ≡ Some seed → Seed text seed
    by_test true holds is =
        let same : digits_value 10 text ≡ seed = cc in
        subst (Seed text) same (record {
          written = (bytes_eq-Decides text (decimal (digits_value 10 text))).0 (and_first (bytes_eq text (decimal (digits_value 10 text))) (nat_lt (digits_value 10 text) (2 ^ 64)) holds);
          low = below (digits_value 10 text) (2 ^ 64) (and_second (bytes_eq text (decimal (digits_value 10 text))) (nat_lt (digits_value 10 text) (2 ^ 64)) holds);
        })
    by_test false holds is = cc

seeded_names : (line : List ℕ) (forms : List (List ℕ × (ℕ → Job))) → AllByRecursion Forms forms → (job : Job) → with_seed forms line ≡ Some job → Names line job
seeded_names line [] all job is = cc
seeded_names line (form ∷ forms) all job is = by_test (bytes_eq form.0 (take (length form.0) line)) refl is (seeded_names line forms all.1 job)
  where
    by_seed : form.0 ≡ take (length form.0) line → (o : Option ℕ) → seed_of (drop (length form.0) line) ≡ o → option_map form.1 o ≡ Some job → Names line job
    by_seed front None read is = cc
    by_seed front (Some seed) read is =
        let text : Seed (drop (length form.0) line) seed = seed_is (drop (length form.0) line) seed read in
        let here : form.1 seed ≡ job = cc in
        subst (Names line) here (
          sym (take-append-drop (length form.0) line) ∙ (λ i. sym front i ++ text.written i) ∙ sym (all.0 seed).0,
          (all.0 seed).1 text.low,
        )

    by_test : (b : Bool) → bytes_eq form.0 (take (length form.0) line) ≡ b → cond b (option_map form.1 (seed_of (drop (length form.0) line))) (with_seed forms line) ≡ Some job
        → (with_seed forms line ≡ Some job → Names line job) → Names line job
    by_test true same is later = by_seed ((bytes_eq-Decides form.0 (take (length form.0) line)).0 same) (seed_of (drop (length form.0) line)) refl is
    by_test false other is later = later is

seedless_have : AllByRecursion HasSeed seedless
seedless_have = (tt, (tt, (tt, (tt, (tt, (tt, (tt, (tt, (tt, (tt, (tt, (tt, (tt, (tt, tt))))))))))))))

seeded_form : AllByRecursion Forms seeded
seeded_form = (
  λ seed. (refl, λ low. low),
  (λ seed. (refl, λ low. low), (λ seed. (refl, λ low. low), (λ seed. (refl, λ low. low), tt))),
)

pub lines_are_jobs : LinesAreJobs
lines_are_jobs = λ line job is. by_found line job (find (λ (j : Job). bytes_eq (job_text j) line) seedless) refl is
  where
    by_found : (line : List ℕ) (job : Job) (o : Option Job) → find (λ (j : Job). bytes_eq (job_text j) line) seedless ≡ o → or_else o (with_seed seeded line) ≡ Some job → Names line job
    by_found line job None none is = seeded_names line seeded seeded_form job is
    by_found line job (Some j) found is = found_names line seedless seedless_have job (found ∙ is)

seed_short : (seed : ℕ) → seed < 2 ^ 64 → length (decimal seed) ≤ 20
seed_short seed low = length-decimal-le 20 seed (omega arith) (omega (arith, low)) low

pub lines_are_short : LinesAreShort
lines_are_short (Traverse T1) has = omega arith
lines_are_short (Traverse (T2 A)) has = omega arith
lines_are_short (Traverse (T2 B)) has = omega arith
lines_are_short (Traverse (T2 C)) has = omega arith
lines_are_short (Traverse (T3 A)) has = omega arith
lines_are_short (Traverse (T3 B)) has = omega arith
lines_are_short (Traverse (T3 C)) has = omega arith
lines_are_short (Traverse T6) has = omega arith
lines_are_short (Traverse T8) has = omega arith
lines_are_short (Traverse T9) has = omega arith
lines_are_short (Ask (Q1 seed)) has = omega (arith, seed_short seed has)
lines_are_short (Ask Q2) has = omega arith
lines_are_short (Ask Q3) has = omega arith
lines_are_short (Ask (Q4 seed)) has = omega (arith, seed_short seed has)
lines_are_short (Ask Q5) has = omega arith
lines_are_short (Ask Q7) has = omega arith
lines_are_short (Insert seed) has = omega (arith, seed_short seed has)
lines_are_short (Delete seed) has = omega (arith, seed_short seed has)
