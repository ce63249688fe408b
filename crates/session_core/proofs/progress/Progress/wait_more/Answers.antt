use Rattle.session_core.proofs.progress.Progress.wait_more.Goals as goal

pub returns : goal.returns
returns c = λ burst h. rw (c.wait_in-wanted.ensures burst h) at (c.wait.ensures burst)
