use Rattle.std.proofs.Common.{◌≡◌, ℕ, ◌+◌, ◌≤◌, ◌++◌, List, [], ◌∷◌, length, map, take, sym, ap, subst, ◌∙◌, arith}
use Rattle.std.proofs.Math.ListN.{length-map}
use Rattle.std.proofs.lemmas.List.{map_push, take_more, take_all}
use Rattle.pager_model.specs.Settings.{Given}
use Rattle.pager_model.specs.SpaceStates.{last_count}
use Rattle.pager_model.specs.Stored.{Stored}
use Rattle.pager_core.proofs.Stores.{read_more, Each, Each-push, IsZeroIfTold}
use Rattle.pager_core.proofs.run_parts.setting_of.Given.{Over}
use Rattle.pager_core.proofs.run_parts.setting_of.Goals as goal

pub loop-store-preserved : goal.loop-store-preserved
loop-store-preserved g c =
    let n = c.loop-store.store-index in
    let all = c.args.stores.now in
    let store = c.store-item.result in
    let old = map g.S.Store.seen (take n all) in
    let more : map g.S.Store.seen (take (n + 1) all) ≡ old ++ g.S.Store.seen store ∷ [] =
    ap (map g.S.Store.seen) (take_more all n store (omega arith) ∙ ap (λ s. take n all ++ s ∷ []) (sym c.store-item.is))
    ∙ map_push g.S.Store.seen (take n all) store in (
      c.in_ok-push.ensures.items ∙ read_more (λ (s : Stored). s.told) old
          (g.S.Store.seen store) c.loop-store.told.items c.told.result c.loop-store.invariant.0 c.told.ensures.told
          ∙ sym (ap (map (λ (s : Stored). s.told)) more),
      c.in_ok-push-2.ensures.items ∙ read_more (λ (s : Stored). s.faults) old
          (g.S.Store.seen store) c.loop-store.faults.items c.faults.result c.loop-store.invariant.1 c.faults.ensures.faults
          ∙ sym (ap (map (λ (s : Stored). s.faults)) more),
      Each-push IsZeroIfTold old _ (g.S.Store.seen store) more c.loop-store.invariant.2
          (λ is. c.told.ensures.zero (c.told.ensures.told ∙ is)),
      Each-push (λ s. s.faults ≤ last_count) old _ (g.S.Store.seen store) more c.loop-store.invariant.3 c.faults.ensures.capped,
    )

-- what was read of each is as many as the stores
as_many : {P X : Type 0} (seen : P → Stored) (f : Stored → X) (stores : List P) (n : ℕ) (read : List X) → length stores ≤ n
    → read ≡ map f (map seen (take n stores)) → length read ≡ length stores
as_many seen f stores n read all is =
    ap length is ∙ length-map (map seen (take n stores)) f ∙ length-map (take n stores) seen ∙ ap length (take_all n stores all)

pub of-requires-clause-spaces : goal.of-requires-clause-spaces
of-requires-clause-spaces g c =
    let many = as_many g.S.Store.seen (λ (s : Stored). s.told) c.args.stores.now c.loop-store.store-index c.loop-store.told.items
    (omega (arith, c.loop-store-test.false)) c.loop-store.invariant.0 in
    (omega (arith, many, c.requires.spaces.0), omega (arith, many, c.requires.spaces.1))

pub of-requires-clause-counts : goal.of-requires-clause-counts
of-requires-clause-counts g c =
    let told = as_many g.S.Store.seen (λ (s : Stored). s.told) c.args.stores.now c.loop-store.store-index c.loop-store.told.items
    (omega (arith, c.loop-store-test.false)) c.loop-store.invariant.0 in
    let faults = as_many g.S.Store.seen (λ (s : Stored). s.faults) c.args.stores.now c.loop-store.store-index c.loop-store.faults.items
    (omega (arith, c.loop-store-test.false)) c.loop-store.invariant.1 in
    omega (arith, told, faults, c.loop-store.told.ok.0, c.loop-store.faults.ok.0)

pub of-requires-clause-processors : goal.of-requires-clause-processors
of-requires-clause-processors g c =
    let same = ap length (c.in_ok-marks.ensures.items_if_clones_equal (λ x y same. same)) in
    (omega (arith, same, c.requires.processors.0), omega (arith, same, c.requires.processors.1))

-- it read all of them
read : (g : Over) (c : goal.After-with_sizes g) → map g.S.Store.seen (take c.loop-store.store-index c.args.stores.now)
    ≡ map g.S.Store.seen c.args.stores.now
read g c = ap (map g.S.Store.seen) (take_all c.loop-store.store-index c.args.stores.now (omega (arith, c.loop-store-test.false)))

pub returns-clause-given : goal.returns-clause-given
returns-clause-given g c =
    c.with_sizes.ensures ∙ ap (λ (g : Given). record g { sizes = c.args.sizes }) c.of.ensures ∙ (λ i. record {
      sizes = c.args.sizes;
      frames = c.args.frames;
      marks = c.in_ok-marks.ensures.items_if_clones_equal (λ x y same. same) i;
      told = (c.loop-store.invariant.0 ∙ ap (map (λ (s : Stored). s.told)) (read g c)) i;
      faults = (c.loop-store.invariant.1 ∙ ap (map (λ (s : Stored). s.faults)) (read g c)) i;
    })

pub returns-clause-told : goal.returns-clause-told
returns-clause-told g c = subst (Each IsZeroIfTold) (read g c) c.loop-store.invariant.2

pub returns-clause-capped : goal.returns-clause-capped
returns-clause-capped g c = λ s store below at. subst (Each (λ s. s.faults ≤ last_count)) (read g c) c.loop-store.invariant.3 s store at
