use Rattle.std.proofs.Common.{◌<◌, ◌≤◌, ◌∙◌, ℕ, subst}
use Rattle.pm3_types.specs.Fields.{has_bytes}
use Rattle.pm3_txn.proofs.ByteSteps.{byte_test, count_below, count_past}
use Rattle.pm3_txn.proofs.heap.Heap.byte_count.Goals as goal

pub returns-clause-below : goal.returns-clause-below
returns-clause-below g c k low =
    byte_test c.args.self.now.1 c.args.held.now c.args.at c.map_of-map.result c.tail_at-len.result c.map_of-map.ensures c.tail_at-len.ensures k
    ∙ count_below (has_bytes c.map_of-map.result.tail) c.tail_at-len.result k (subst (λ (n : ℕ). k < n) c.bytes_of.ensures low)

pub returns-clause-past : goal.returns-clause-past
returns-clause-past g c k high =
    byte_test c.args.self.now.1 c.args.held.now c.args.at c.map_of-map.result c.tail_at-len.result c.map_of-map.ensures c.tail_at-len.ensures k
    ∙ count_past (has_bytes c.map_of-map.result.tail) c.tail_at-len.result k (subst (λ (n : ℕ). n ≤ k) c.bytes_of.ensures high)
