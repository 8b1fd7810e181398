use Rattle.std.proofs.Common.{◌≡◌, ℕ, ◌*◌, ◌/◌, true, is_some, subst, arith}
use Rattle.tiles.specs.TableEntries.{entry_at, NoneMapped}
use Rattle.tiles.proofs.EntryChanges.{row_has}
use Rattle.tiles.proofs.NextEntries.{none_mapped}
use Rattle.tiles.proofs.mixed.Mixed.used_block.Goals as goal

pub returns-clause-bare : goal.returns-clause-bare
returns-clause-bare g c =
    subst (λ t. NoneMapped t (c.args.from * 512) (c.used_root.result * 512)) c.self.view_is
    (none_mapped c.self.inside.tree (c.args.from * 512) (c.used_root.result * 512)
    (λ size page low on before. c.used_root.ensures.bare size page low (omega arith) (omega arith)))

pub returns-clause-used : goal.returns-clause-used
returns-clause-used g c before =
    let used = c.used_root.ensures.used before in
    subst (λ t. (page : ℕ) × (page / 512 ≡ c.used_root.result) × (is_some (entry_at t page) ≡ true)) c.self.view_is
    (used.1, used.3, row_has c.self.inside.tree used.0 used.1 used.2 used.4)
