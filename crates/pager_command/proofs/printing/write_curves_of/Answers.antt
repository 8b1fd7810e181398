use Rattle.pager_command.proofs.Results.{of_ok, of_err}
use Rattle.pager_command.proofs.printing.write_curves_of.Goals as goal

pub returns-in-Ok-clause-wrote : goal.returns-in-Ok-clause-wrote
returns-in-Ok-clause-wrote g c = λ is given run.
    let counted = c.in-Ok.ensures in (
      c.in-Ok.counted.tiles.items,
      c.in-Ok.counted.pages.items,
      counted.curves given run,
      rw (← c.as_slice.ensures.value, ← c.as_slice-in-Ok.ensures.value)
          (of_ok c.write_curves-wrote.result (c.status_of_write.ensures.done is) c.write_curves-wrote.ensures.whole),
    )

pub returns-in-Ok-clause-part : goal.returns-in-Ok-clause-part
returns-in-Ok-clause-part g c = λ is given run.
    let counted = c.in-Ok.ensures in (
      c.in-Ok.counted.tiles.items,
      c.in-Ok.counted.pages.items,
      counted.curves given run,
      rw (← c.as_slice.ensures.value, ← c.as_slice-in-Ok.ensures.value)
          (of_err c.write_curves-wrote.result (c.status_of_write.ensures.failed is) c.write_curves-wrote.ensures.part),
    )
