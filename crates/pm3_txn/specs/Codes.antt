-- Codes, by which clauses tell values apart.
use Rattle.std.specs.Prelude.{ℕ, Bool, List, refl}
use Rattle.std.specs.Coded.{Coded, code_by, coded×, coded_ℕ, coded_bool, coded_list}
use Rattle.atomic_table.specs.Seated.{TableId}
use Rattle.pm3_table.specs.declared.view.View.{View}
use Rattle.pm3_table.specs.declared.view.Told.{Told}
use Rattle.pm3_access.specs.Holding.{Holding}
use Rattle.pm3_txn.specs.States.{MutatorState, TxnState}

abbrev pub mutator_code : {R : Type 0} → Coded R → Coded (TableId × View) → Coded (MutatorState R)
mutator_code {R} reader_code pass_code =
    code_by ((TableId × View) × (ℕ × (R × (List Bool × (List Bool × ℕ)))))
    (coded× pass_code (coded× coded_ℕ (coded× reader_code (coded× (coded_list coded_bool) (coded× (coded_list coded_bool) coded_ℕ)))))
    (λ m. (m.pass, (m.space, (m.reader, (m.refs, (m.wrote, m.next_name))))))
    (λ p. record { pass = p.0; space = p.1.0; reader = p.1.1.0; refs = p.1.1.1.0; wrote = p.1.1.1.1.0; next_name = p.1.1.1.1.1 }) (λ _. refl)

abbrev pub txn_code : {R : Type 0} → Coded (TableId × Told) → Coded (MutatorState R) → Coded Holding → Coded (TxnState R)
txn_code {R} heap_code mutator held =
    code_by ((TableId × Told) × (MutatorState R × (Holding × ℕ)))
    (coded× heap_code (coded× mutator (coded× held coded_ℕ)))
    (λ t. (t.heap, (t.mutator, (t.held, t.tag))))
    (λ p. record { heap = p.0; mutator = p.1.0; held = p.1.1.0; tag = p.1.1.1 }) (λ _. refl)
