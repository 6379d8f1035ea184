use Rattle.worker_phase.proofs.pool.WorkerPool.work_through.Given as goal

-- the phase is named by this publication and this queue
abbrev pub ghosts-work_at_block : goal.ghosts-work_at_block
ghosts-work_at_block g a = record { publication = a.editor.publication; queue = a.means.now.queue.now.name }
