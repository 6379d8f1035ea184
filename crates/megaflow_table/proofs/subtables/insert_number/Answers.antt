use Rattle.megaflow_table.proofs.subtables.insert_number.Goals as goal

pub insert-requires : goal.insert-requires
insert-requires c absent = c.requires
