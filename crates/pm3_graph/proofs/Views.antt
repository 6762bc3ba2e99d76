-- The entries of an ordered map, seen as a finite map.
use Rattle.std.proofs.Common.{◌≡◌, ℕ, List, [], ◌∷◌, refl, sym, ap, ◌∙◌, cond, Some}
use Rattle.std.specs.Ordering.{nat_cmp, eq_by_cmp}
use Rattle.std.specs.Cmp.{nat_cmp_total, eq_by_cmp_equiv}
use Rattle.std.specs.FinMap.{get, insert, from_entries, find, get-from_entries, get-insert, same_map, nat_cmp-IsAntisymmetric}
use Rattle.std.specs.Map.{lookup}
use Rattle.std.specs.BTreeMap.{is_at}

module _ {X : Type 0} where
  find-lookup : (q : ℕ) (es : List (ℕ × X)) → find nat_cmp q es ≡ lookup (is_at (nat_cmp q)) es
  find-lookup q [] = refl
  find-lookup q (e ∷ es) = ap (cond (eq_by_cmp nat_cmp q e.0) (Some e.1)) (find-lookup q es)

  -- a look-up in the entries is one in the map
  pub get-entries_of : (es : List (ℕ × X)) (q : ℕ) → get (from_entries {R = nat_cmp} es) q ≡ lookup (is_at (nat_cmp q)) es
  get-entries_of es q = get-from_entries nat_cmp_total es q ∙ find-lookup q es

  -- entries that answer as the old ones, but for one key, are the map with that key
  pub inserted : (old new : List (ℕ × X)) (k : ℕ) (v : X)
      → ((q : ℕ) → lookup (is_at (nat_cmp q)) new ≡ cond (is_at (nat_cmp k) q) (Some v) (lookup (is_at (nat_cmp q)) old))
      → from_entries {R = nat_cmp} new ≡ insert (from_entries old) k v
  inserted old new k v follows =
      same_map nat_cmp_total nat_cmp-IsAntisymmetric _ _ (λ q.
      get-entries_of new q ∙ follows q
      ∙ ap (cond (is_at (nat_cmp k) q) (Some v)) (sym (get-entries_of old q))
      ∙ ap (λ b. cond b (Some v) (get (from_entries {R = nat_cmp} old) q)) ((eq_by_cmp_equiv nat_cmp_total).symm k q)
      ∙ sym (get-insert nat_cmp_total (from_entries old) k v q))
