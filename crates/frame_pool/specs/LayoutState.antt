-- The layout of the frames as a layout's fields have it.
use Rattle.pager_model.specs.Layouts.{Layout}
use Rattle.frame_pool.specs.declared.layout.Layout.TheInside.{Inside}
use Rattle.frame_pool.specs.ReservedChanges.{with_free}

abbrev pub layout_in : Inside → Layout
layout_in l = with_free l.free l.reserved
