use Rattle.std.proofs.Common.{◌≡◌, ℕ, ◌*◌, ◌/◌, ◌≤◌, true, is_some, ap, subst, sym, ◌∙◌, arith}
use Rattle.extent_tree.specs.Kept.{is_used}
use Rattle.extent_tree.specs.Rows.{NoRows, row}
use Rattle.extent_tree.proofs.Nexts.{no_rows_at_roots, row_at_root}
use Rattle.extent_tree.proofs.ExtentTree.used_root.Goals as goal

pub returns-clause-bare : goal.returns-clause-bare
returns-clause-bare g c =
    let root = c.next_root.result.0 in
    let found = c.next_root.ensures in
    subst (λ t. NoRows t 3 (512 * c.args.from) (512 * root)) c.self.view_is
    (no_rows_at_roots c.self.inside.store c.self.invariant (512 * c.args.from) root
    (omega (arith, found.within, c.requires.end, ap (λ t. t.roots) c.self.view_is))
    (λ other on before. found.bare other (omega arith) before))

pub returns-clause-used : goal.returns-clause-used
returns-clause-used g c low =
    let root = c.next_root.result.0 in
    let found = c.next_root.ensures in
    subst (λ t. (size page : ℕ) × (size ≤ 3) × (page / 512 ≡ root) × (is_some (row t size page) ≡ true)) c.self.view_is
    (row_at_root c.self.inside.store c.self.invariant root (omega (arith, low, c.requires.end, ap (λ t. t.roots) c.self.view_is))
    (ap is_used (sym (found.spot low)) ∙ found.used low))
