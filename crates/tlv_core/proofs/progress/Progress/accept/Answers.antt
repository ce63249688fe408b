use Rattle.std.proofs.Common.{◌≡◌, ◌≤◌, ◌+◌, ◌-◌, List, ℕ, [], suc, sym, ap, subst, ◌∙◌, arith}
use Rattle.tlv_core.specs.declared.header.Header.{Header}
use Rattle.tlv_core.specs.declared.header.Next.{Next}
use Rattle.tlv_core.specs.declared.header.Next.TheVariants as next
use Rattle.tlv_core.specs.declared.progress.Progress.{Progress}
use Rattle.tlv_core.specs.Header.{header_octets, header_in, next_need, IsWell}
use Rattle.tlv_core.specs.Reasons.{Kept, room_of}
use Rattle.tlv_core.specs.Tag.{constructed_bit}
use Rattle.tlv_core.specs.Steps.{after_next, entered}
use Rattle.tlv_core.specs.Open.{rooms_to}
use Rattle.tlv_core.specs.OpenEnds.{ends_of}
use Rattle.tlv_core.specs.Progress.{kept_of}
use Rattle.tlv_core.proofs.Ends.{kept, from-now, from-room, from-less, from-fits, fewer-now, room-within, same_open, same_left, some_header, well_header, some_object, after-none}
use Rattle.tlv_core.proofs.progress.Progress.accept.Goals as goal

-- there is room for what must still come
within : (s : Progress) (follow : Next)
    → suc (next_need follow) ≤ room_of (s.ends.max - s.ends.count) (rooms_to s.ends.count (ends_of s.ends))
    → s.ends.count + (1 + next_need follow) ≤ s.ends.max
within s follow room =
    let e = s.ends in omega (arith, room, e.within, room-within e.max e.count (ends_of e) e.ahead e.within)

pub go-requires : goal.go-requires
go-requires c = omega (arith, within c.args.self.now c.args.next.now c.requires.room)

pub invariant_of-self : goal.invariant_of-self
invariant_of-self c =
    let s = c.args.self.now in
    let follow = c.args.next.now in
    record {
      within = omega (
        arith,
        within s follow c.requires.room,
        c.requires.idle,
        c.go.ensures.max,
        c.go.ensures.count,
      );
      well = subst IsWell (sym c.header-self.ensures) (well_header follow c.requires.well);
      shallow = λ h. omega (
        arith,
        c.requires.shallow
            (some_header follow (λ e. h (c.header-self.ensures ∙ e))),
        fewer-now (ends_of c.go.new.self) (ends_of s.ends) (s.ends.count + 1) c.go.ensures.ends,
      );
    }

pub enter-requires-clause-shallow : goal.enter-requires-clause-shallow
enter-requires-clause-shallow c =
    let e = c.args.self.now.ends in
    let o = c.in-Some.object in
    let is : c.args.next.now ≡ next.Object o = some_object c.args.next.now o (sym c.object.ensures ∙ c.in-Some.is) in
    omega (
      arith,
      c.requires.shallow (λ filler. let bad : next.Object o ≡ next.Filler = sym is ∙ filler in cc),
      fewer-now (ends_of c.go.new.self) (ends_of e) (e.count + 1) c.go.ensures.ends,
    )

pub enter-requires-clause-fits : goal.enter-requires-clause-fits
enter-requires-clause-fits c =
    let e = c.args.self.now.ends in
    let now = c.go.new.self in
    let o = c.in-Some.object in
    let is : c.args.next.now ≡ next.Object o = some_object c.args.next.now o (sym c.object.ensures ∙ c.in-Some.is) in
    let need : next_need c.args.next.now ≡ o.len = ap next_need is in
    let place = e.count + 1 + o.len in
    let fits = from-fits place now.count (now.max - now.count) (ends_of now)
    (from-now place (e.count + 1) (ends_of e) (ends_of now)
    (from-less place (e.count + room_of (e.max - e.count) (rooms_to e.count (ends_of e))) (ends_of e)
    (omega (arith, need, c.requires.room)) (from-room e.max e.count (e.max - e.count) (ends_of e) e.ahead e.nested))
    c.go.ensures.ends)
    (omega (
      arith,
      within c.args.self.now c.args.next.now c.requires.room,
      need,
      c.go.ensures.max,
      c.go.ensures.count,
    )) in
    omega (arith, fits, c.go.ensures.count)

pub returns-in-Some : goal.returns-in-Some
returns-in-Some c =
    let s = c.args.self.now in
    let e = s.ends in
    let o = c.in-Some.object in
    let is : c.args.next.now ≡ next.Object o = some_object c.args.next.now o (sym c.object.ensures ∙ c.in-Some.is) in
    let none : header_octets c.header-self.result ≡ [] = ap header_octets (c.header-self.ensures ∙ ap header_in is) in
    let now = c.go.new.self in
    let rooms : List ℕ = rooms_to now.count (ends_of now) in
    c.enter.ensures
    ∙ ap (λ (k : Kept). entered k o.len (constructed_bit o.tag))
    (ap (λ (l : List ℕ). kept now.max now.count rooms l s.value_left) none
    ∙ same_left now.max now.count rooms [] s.value_left 0 c.requires.idle
    ∙ same_open e.max e.count 1 0 now.max now.count [] (ends_of e) (ends_of now) c.go.ensures.max c.go.ensures.count
    c.go.ensures.ends)
    ∙ ap (after_next (kept_of s)) (sym is)

pub returns-in_default : goal.returns-in_default
returns-in_default c =
    let s = c.args.self.now in
    let e = s.ends in
    let h = header_octets (header_in c.args.next.now) in
    let now = c.go.new.self in
    let rooms : List ℕ = rooms_to now.count (ends_of now) in
    ap (λ (j : Header). kept now.max now.count rooms (header_octets j) s.value_left) c.header-self.ensures
    ∙ same_left now.max now.count rooms h s.value_left 0 c.requires.idle
    ∙ same_open e.max e.count 1 0 now.max now.count h (ends_of e) (ends_of now) c.go.ensures.max c.go.ensures.count
    c.go.ensures.ends
    ∙ sym (after-none (kept_of s) c.args.next.now (λ o e. c.in_default.not-Some o (c.object.ensures ∙ e)))
