use Rattle.std.proofs.Common.{◌≡◌, rules, replicate, None, refl, sym, subst}
use Rattle.std.specs.List.{All}
use Rattle.std.proofs.lemmas.List.Elements.{All-replicate}
use Rattle.pager_model.specs.SpaceStates.{empty_state, pages_of}
use Rattle.pager_model.specs.Tiles.{is_tile_in}
use Rattle.lru_stack.specs.Stacks.{Passes}
use Rattle.lru_stack.proofs.Standing.{stands-begun}
use Rattle.lru_stack.proofs.stack.Stack.create.Goals as goal

pub returns : goal.returns
returns c =
    let row : c.in_ok-vec.field-0.items ≡ replicate c.args.places None = search rules in
    record {
      blank = record {
        places = search rules;
        unused = refl;
        stands = λ z sizes told faults. record {
          images = stands-begun _ c.args.places sizes told faults row (search rules) refl;
          tiles = subst (All (Passes (is_tile_in z (pages_of (empty_state sizes told faults))))) (sym row)
              (All-replicate (Passes (is_tile_in z (pages_of (empty_state sizes told faults)))) c.args.places None tt);
        };
      };
    }
