use Rattle.std.proofs.Common.{ℕ, List, codes, decimal, [], ◌∷◌, Some, ap, sym, ◌∙◌, arith}
use Rattle.pager_command.proofs.Words.{split_first}
use Rattle.pager_command.proofs.form.turns_asked.Goals as goal

pub returns-clause-some : goal.returns-clause-some
returns-clause-some c =
    let seed = decimal c.in_ok-seed.seed in
    record {
      are = ap (λ (ws : List (List ℕ)). Some (codes "turns" ∷ ws))
          (sym (split_first c.args.words.now (record { ref_ptr = (0, 0); now = [] }) seed c.in-len1-up.len_at_least c.in_ok-seed.ensures.some
          ∙ ap (λ (ws : List (List ℕ)). seed ∷ ws) c.in_ok-parts.ensures.some));
      seed = omega arith;
      size = tt;
    }
