use Rattle.std.proofs.Common.{◌++◌, ◌∷◌, [], List, ℕ, codes, subst, Result, Ok, Err}
use Rattle.std.specs.Io.KnownBytes.{Appends}
use Rattle.std.specs.Result.{OnOk}
use Rattle.superpager.proofs.tell.Goals as goal

-- what holds where there is a value gives what follows from it
on_ok : {T E : Type 0} {P Q : Type 0} (r : Result T E) → OnOk r P → (P → Q) → OnOk r Q
on_ok (Ok value) holds then = then holds
on_ok (Err e) holds then = holds

pub returns-in-None : goal.returns-in-None
returns-in-None g c = record {
  message = on_ok c.writeln-in-None.result c.writeln-in-None.ensures.bytes (λ told _.
      subst (λ (text : List ℕ). Appends (g.W.Write.contents c.args.out.now) (g.W.Write.contents c.writeln-in-None.new.self)
      (codes "superpager: " ++ text ++ 10 ∷ [])) c.message_of.ensures told);
}
