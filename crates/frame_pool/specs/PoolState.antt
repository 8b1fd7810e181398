-- The frames' state as a pool's fields have it.
use Rattle.pager_model.specs.FrameStates.{FrameState}
use Rattle.frame_pool.specs.declared.pool.Pool.TheInside.{Inside}

abbrev pub state_of : Inside → FrameState
state_of p =
    record {
      sizes = p.layout.sizes;
      free = p.layout.free;
      records = p.layout.records;
      used = p.used.frames;
      held = p.held.items;
      entries = p.entries;
      preemptions = p.preemptions;
    }
