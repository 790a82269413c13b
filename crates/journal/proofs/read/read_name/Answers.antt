-- The name's last word has zeros after the name's end, or something else.
use Rattle.std.proofs.Common.{◌≡◌, ℕ, ◌+◌, ◌/◌, List, take, sym, ap, ◌∙◌, arith}
use Rattle.std.proofs.lemmas.Slice.{between_from_start}
use Rattle.journal.proofs.NameWords.{name_unclean, name_clean}
use Rattle.journal.proofs.read.read_name.Goals as goal

pub returns-then-not-ends_in_zeros-clause-name : goal.returns-then-not-ends_in_zeros-clause-name
returns-then-not-ends_in_zeros-clause-name c =
    let rest : List ℕ = c.in_ok-first.rest.now in
    let n : ℕ = c.in_ok-first.first.now in
    let g = c.in_ok-body.ensures.lookup in
    let size : c.div_ceil.result ≡ (n + 7) / 8 = omega (arith, c.div_ceil.ensures) in
    name_unclean _ rest c.in_ok-body.body.now n _ c.in_ok-first.ensures.cases.0 (g.0.2 ∙ (between_from_start rest c.div_ceil.result ∙ ap (λ k. take k rest) size))
    (omega (arith, g.0.1)) (omega arith) (omega arith) c.in_ok-last.ensures.value (sym c.if-not-ends_in_zeros.ensures)

pub returns-clause-name : goal.returns-clause-name
returns-clause-name c =
    let rest : List ℕ = c.in_ok-first.rest.now in
    let n : ℕ = c.in_ok-first.first.now in
    let g = c.in_ok-body.ensures.lookup in
    let size : c.div_ceil.result ≡ (n + 7) / 8 = omega (arith, c.div_ceil.ensures) in
    name_clean _ rest c.in_ok-body.body.now n _ c.in_ok-first.ensures.cases.0 (g.0.2 ∙ (between_from_start rest c.div_ceil.result ∙ ap (λ k. take k rest) size))
    (omega (arith, g.0.1)) (omega arith) (omega arith) c.in_ok-last.ensures.value c.bytes_of-bytes.result (sym c.if-not-ends_in_zeros.ensures)
    c.bytes_of-bytes.ensures.bytes
