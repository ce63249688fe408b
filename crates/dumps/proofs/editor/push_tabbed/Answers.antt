use Rattle.std.proofs.Common.{rules}
use Rattle.dumps.proofs.Tabs.{tab-none, tab-read, tab-shorter}
use Rattle.dumps.proofs.editor.push_tabbed.Goals as goal

pub loop-octet-preserved : goal.loop-octet-preserved
loop-octet-preserved c = tab-read c.loop-octet.octets.items c.push.new.self.items c.in-Some.octet c.loop-octet.rest.now
    c.in-Some.after.now _ (search rules) (search rules) c.loop-octet.invariant

pub loop-octet-smaller : goal.loop-octet-smaller
loop-octet-smaller c = tab-shorter c.loop-octet.rest.now c.in-Some.after.now c.in-Some.octet (search rules)

pub returns : goal.returns
returns c = tab-none c.loop-octet.octets.items c.loop-octet.rest.now _ (search rules) c.loop-octet.invariant
