-- The words of the table after a step on one of them.
use Rattle.std.proofs.Common.{◌≡◌, ℕ, ◌+◌, ◌<◌, List, length-set, get_or, get_or-set_same, get_or-set_other, sym, ap, ◌∙◌, subst, arith}
use Rattle.std.proofs.Math.ListN.{set}
use lib.Seq.{set-get_or}
use mathlib.Core.Logic.{dite}
use native.Mathlib.Decide.{ℕ_discrete}
use Rattle.pm3_core.specs.declared.events.TheConstants.{PLACES}
use Rattle.pm3_core.specs.Machine.{put}
use Rattle.pm3_table.specs.Words.{Encodes, unit_at, counter_at, unit_word, mark_in, space_in}
use Rattle.pm3_table.proofs.Put.{put_at, put_else, put_cases}

-- the parts of a unit's word
pub mark_read : (l m s : ℕ) → l < 256 → m < 256 → mark_in (unit_word l m s) ≡ m
mark_read l m s a b = omega arith

pub space_read : (l m s : ℕ) → l < 256 → m < 256 → s < 256 → space_in (unit_word l m s) ≡ s
space_read l m s a b c = omega arith

module _ (pages : ℕ) (row lock mark space counter : ℕ → ℕ) (words : List ℕ) (e : Encodes pages row lock mark space counter words) where
  -- a load changes no word
  pub encode_same : (i : ℕ) → Encodes pages row lock mark space counter (set words i (get_or words i 0))
  encode_same i = subst (Encodes pages row lock mark space counter) (sym (set-get_or words i 0)) e

  pub encode_row : (n w : ℕ) → n < PLACES → Encodes pages (put row n w) lock mark space counter (set words n w)
  encode_row n w below = record {
    wide = length-set words n w ∙ e.wide;
    rows = λ i low. put_cases (λ x. get_or (set words n w) i 0 ≡ x) row n w i
        (λ here. ap (λ (j : ℕ). get_or (set words n w) j 0) here ∙ get_or-set_same words n w 0 (omega (arith, e.wide, below)))
        (λ other. get_or-set_other words n i w 0 other ∙ e.rows i low);
    units = λ u low. get_or-set_other words n (unit_at u) w 0 (λ same. omega (arith, same, below)) ∙ e.units u low;
    counters = λ c low. get_or-set_other words n (counter_at pages c) w 0 (λ same. omega (arith, same, below)) ∙ e.counters c low;
  }

  pub encode_unit : (u l m s : ℕ) → u < pages + 33 → Encodes pages row (put lock u l) (put mark u m) (put space u s) counter (set words (unit_at u) (unit_word l m s))
  encode_unit u l m s below =
      let w : ℕ = unit_word l m s in record {
        wide = length-set words (unit_at u) w ∙ e.wide;
        rows = λ i low. get_or-set_other words (unit_at u) i w 0 (λ same. omega (arith, same, low)) ∙ e.rows i low;
        units = λ i low. dite (ℕ_discrete i u)
            (λ here. ap (λ (j : ℕ). get_or (set words (unit_at u) w) (unit_at j) 0) here ∙ (get_or-set_same words (unit_at u) w 0 (omega (arith, e.wide, below))
            ∙ (λ j. unit_word (sym (put_at lock u l i here) j) (sym (put_at mark u m i here) j) (sym (put_at space u s i here) j))))
            (λ other. get_or-set_other words (unit_at u) (unit_at i) w 0 (λ same. other (omega (arith, same))) ∙ (e.units i low
            ∙ (λ j. unit_word (sym (put_else lock u l i other) j) (sym (put_else mark u m i other) j) (sym (put_else space u s i other) j))));
        counters = λ c low. get_or-set_other words (unit_at u) (counter_at pages c) w 0 (λ same. omega (arith, same, below)) ∙ e.counters c low;
      }

  pub encode_counter : (c x : ℕ) → c < 3 → Encodes pages row lock mark space (put counter c x) (set words (counter_at pages c) x)
  encode_counter c x below = record {
    wide = length-set words (counter_at pages c) x ∙ e.wide;
    rows = λ i low. get_or-set_other words (counter_at pages c) i x 0 (λ same. omega (arith, same, low)) ∙ e.rows i low;
    units = λ u low. get_or-set_other words (counter_at pages c) (unit_at u) x 0 (λ same. omega (arith, same, low)) ∙ e.units u low;
    counters = λ i low. put_cases (λ y. get_or (set words (counter_at pages c) x) (counter_at pages i) 0 ≡ y) counter c x i
        (λ here. ap (λ (j : ℕ). get_or (set words (counter_at pages c) x) (counter_at pages j) 0) here ∙ get_or-set_same words (counter_at pages c) x 0 (omega (arith, e.wide, below)))
        (λ other. get_or-set_other words (counter_at pages c) (counter_at pages i) x 0 (λ same. other (omega (arith, same))) ∙ e.counters i low);
  }
