-- The dump of a graph that is given as a sorted list of records.
use Rattle.std.proofs.Common.{◌≡◌, ℕ, List, [], Option, ap, ◌∙◌, length, unwrap_or, T}
use Rattle.std.specs.Ordering.{nat_cmp}
use Rattle.std.specs.FinMap.{get, len, find, from_sorted, is_sorted, get-from_sorted, entries-from_sorted, len-entries}
use Rattle.pm3_types.specs.Fields.{Fields}
use Rattle.pm3_types.specs.Record.{Record}
use Rattle.pm3_types.specs.Numbering.{met_names, met_from}
use Rattle.pm3_types.specs.Dump.{dump, text_of}

module _ (catalog : List Fields) (es : List (ℕ × Record)) (roots : Option (List ℕ)) (sorted : T (is_sorted nat_cmp es)) where
  found : get (from_sorted {R = nat_cmp} es) ≡ (λ q. find nat_cmp q es)
  found = λ i q. get-from_sorted nat_cmp es q sorted i

  counted : len (from_sorted {R = nat_cmp} es) ≡ length es
  counted = len-entries (from_sorted {R = nat_cmp} es) ∙ ap length (entries-from_sorted nat_cmp es sorted)

  -- records are looked up in the list
  pub dump-sorted : dump catalog (record { records = from_sorted es; roots = roots })
      ≡ text_of catalog (λ q. find nat_cmp q es) (unwrap_or roots []) (met_from catalog (λ q. find nat_cmp q es) (length es) (unwrap_or roots []))
  unfolding dump met_names
  dump-sorted = λ i. text_of catalog (found i) (unwrap_or roots []) (met_from catalog (found i) (counted i) (unwrap_or roots []))
