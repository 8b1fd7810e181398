use Rattle.std.proofs.Common.{◌≡◌, ◌++◌, ◌∙◌, sym, ap, List, ℕ, [], replicate, vec_len, arith}
use Rattle.std.proofs.lemmas.List.{replicate-append-replicate}
use Rattle.pager_model.specs.declared.chunks.Chunk.{Chunk}
use Rattle.pager_model.proofs.chunks.chunks.Goals as goal

pub loop-alloc-preserved : goal.loop-alloc-preserved
loop-alloc-preserved c =
    let more = c.min-more.result in
    let before = c.loop-alloc.chunks in
    let after = c.append_chunks.new.chunks in
    let items : after.items ≡ replicate {A = Chunk} (vec_len after) [] =
    c.append_chunks.ensures.chunks ∙ ap (λ (chunks : List Chunk). chunks ++ replicate more []) c.loop-alloc.invariant.0
    ∙ replicate-append-replicate (vec_len before) more [] ∙ ap (λ (n : ℕ). replicate {A = Chunk} n [])
    (sym c.append_chunks.ensures.len) in (
      items,
      omega (arith, c.append_chunks.ensures.len, c.min-more.ensures, c.len-in-loop-alloc.ensures, c.loop-alloc.invariant.1),
      omega (arith, c.append_chunks.ensures.capacity, c.loop-alloc.invariant.2),
    )
