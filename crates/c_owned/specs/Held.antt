-- What a handle owns.
use Rattle.std.specs.Prelude.{Bool, true, false, Option, None, Some}
use Rattle.std.specs.declared.alloc.Global.{Global}
use base.Fml.{Fml, feq, fex, fsep}
use denote.RawPtr.{Ptr}
use Rattle.std.specs.Box.Ownership.{box_owns}
use Rattle.std.specs.contracts.impls.GlobalAllocator.TheImpl.{ghosts}
use Rattle.c_owned.specs.contracts.engine.Engine.{the_row}

-- nothing, or a box of the engine, which the allocator of the program may free
abbrev pub held : Bool → Ptr → Global → Option the_row.Denot → Fml
held false p a engine = feq (Option the_row.Denot) engine None
held true p a engine = fex the_row.Denot (λ x.
    fsep (feq (Option the_row.Denot) engine (Some x)) (box_owns (ghosts.dealloc_token a) the_row p x))
