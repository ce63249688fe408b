-- A session ends in one way, and each event adds a line.
use Rattle.std.proofs.Common.{◌≡◌, ◌<◌, ◌≤◌, ◌+◌, ◌++◌, ℕ, zero, suc, List, [], ◌∷◌, Option, Some, None, Result, Ok, Err, refl, ap, arith, length, length-append, codes}
use Rattle.std.specs.Result.{result_unwrap_or}
use Rattle.t1_core.specs.Link as link
use Rattle.t1_core.specs.Link.{UnderWay, nothing, to_card, to_terminal}
use Rattle.program_words.specs.declared.session.Session.{Session}
use Rattle.exchange_core.specs.Recording.{Recording, added, arrival_outcome, closed, outcome_of, recorded, untold, with_outcome, link_of, whole}
use Rattle.exchange_text.specs.Text.{exchange_text, header_text, line_text, lines_text, octets_text}
use Rattle.exchange_core.specs.declared.event.EventFault.{EventFault}
use Rattle.exchange_core.specs.declared.event.LastTurn.{LastTurn}
use Rattle.exchange_text.specs.declared.exchange.Version.TheVariants.{One}
use Rattle.exchange_text.specs.declared.line.Line.{Line}
use Rattle.exchange_text.specs.declared.line.Line.TheVariants.{Command, Ifsd, Quiet, Reply, Time, Ifsc}
use Rattle.t1_core.specs.Came.{damaged, invalid}
use Rattle.simulator.specs.Simulation.{EndsAs, Next, Place, exchange_of, further, new_recording, next, onward, simulated, start}

-- ---- an event adds a line

lines-of : (r new : Recording) (event : link.Event) (o : Result LastTurn EventFault) → with_outcome r event o ≡ Ok new
    → r.lines ++ added r event ≡ new.lines
lines-of r new event (Ok last) h = ap (λ (x : Result Recording EventFault). (result_unwrap_or x new).lines) h
lines-of r new event (Err fault) h = cc h

-- a block that comes to its receiver has a line
delivered-some : (r : Recording) (u : UnderWay) (last : LastTurn) → (link_of r).under_way ≡ u
    → arrival_outcome (link_of r) u (whole u) ≡ Ok last → 1 ≤ length (added r link.delivers)
delivered-some r nothing last is h = cc h
delivered-some r (to_card block) last is h = rw is (omega arith)
delivered-some r (to_terminal block) last is h = rw is (omega arith)

damaged-some : (r : Recording) (u : UnderWay) (last : LastTurn) → (link_of r).under_way ≡ u
    → arrival_outcome (link_of r) u (damaged) ≡ Ok last → 1 ≤ length (added r link.damages)
damaged-some r nothing last is h = cc h
damaged-some r (to_card block) last is h = rw is (omega arith)
damaged-some r (to_terminal block) last is h = rw is (omega arith)

spoilt-some : (r : Recording) (u : UnderWay) (last : LastTurn) → (link_of r).under_way ≡ u
    → arrival_outcome (link_of r) u (invalid) ≡ Ok last → 1 ≤ length (added r link.spoils)
spoilt-some r nothing last is h = cc h
spoilt-some r (to_card block) last is h = rw is (omega arith)
spoilt-some r (to_terminal block) last is h = rw is (omega arith)

call-some : (lines : List Line) (line : Line) → 1 ≤ length (lines ++ line ∷ [])
call-some lines line = omega (arith, length-append lines (line ∷ []))

adds-some : (r : Recording) (event : link.Event) (last : LastTurn) → outcome_of (link_of r) event ≡ Ok last
    → 1 ≤ length (added r event)
adds-some r link.delivers last h = delivered-some r (link_of r).under_way last refl h
adds-some r link.damages last h = damaged-some r (link_of r).under_way last refl h
adds-some r link.spoils last h = spoilt-some r (link_of r).under_way last refl h
adds-some r link.loses last h = call-some (untold r) Quiet
adds-some r (link.transmits command) last h = call-some (untold r) (Command command)
adds-some r (link.asks_ifsd size) last h = call-some (untold r) (Ifsd size)
adds-some r (link.host_replies octets) last h = call-some (untold r) (Reply octets)
adds-some r (link.host_asks_time multiple) last h = call-some (untold r) (Time multiple)
adds-some r (link.host_asks_ifsc size) last h = call-some (untold r) (Ifsc size)

grows-by : (r new : Recording) (event : link.Event) (o : Result LastTurn EventFault) → outcome_of (link_of r) event ≡ o
    → with_outcome r event o ≡ Ok new → length r.lines + 1 ≤ length new.lines
grows-by r new event (Ok last) is h =
    let some = adds-some r event last is in
    omega (arith, some, length-append r.lines (added r event), ap length (lines-of r new event (Ok last) h))
grows-by r new event (Err fault) is h = cc h

grows : (r new : Recording) (event : link.Event) → recorded r event ≡ Ok new → length r.lines + 1 ≤ length new.lines
grows r new event h = grows-by r new event (outcome_of (link_of r) event) refl h

-- ---- to the end

-- what goes on from a record, and where it ends
abbrev Goes : Type 0
Goes = Place → Recording → Option Recording

kept-onward : (go : Recording → Option Recording)
    → ((r final : Recording) → go r ≡ Some final → length r.lines ≤ length final.lines)
    → (r final : Recording) (event : link.Event) (after : Result Recording EventFault) → recorded r event ≡ after
    → onward go r after ≡ Some final → length r.lines ≤ length final.lines
kept-onward go below r final event (Ok new) is h = omega (arith, grows r new event is, below new final h)
kept-onward go below r final event (Err fault) is h = let same : r ≡ final =
    cc h in omega (arith, ap (λ (x : Recording). length x.lines) same)

kept-further : (go : Goes) → ((at : Place) (r final : Recording) → go at r ≡ Some final
    → length r.lines ≤ length final.lines)
    → (r final : Recording) (step : Next) → further go r step ≡ Some final → length r.lines ≤ length final.lines
kept-further go below r final None h = let same : r ≡ final =
    cc h in omega (arith, ap (λ (x : Recording). length x.lines) same)
kept-further go below r final (Some step) h =
    kept-onward (go step.1) (below step.1) r final step.0 (recorded r step.0) refl h

kept : (n : ℕ) (s : Session) (at : Place) (r final : Recording) → simulated n s at r ≡ Some final
    → length r.lines ≤ length final.lines
unfolding simulated
kept zero s at r final h = cc h
kept (suc n) s at r final h = kept-further (simulated n s) (λ after new last. kept n s after new last) r final
    (next s at r.last) h

long-onward : (n : ℕ) (go goes : Recording → Option Recording)
    → ((r final : Recording) → go r ≡ None → goes r ≡ Some final → length r.lines + n ≤ length final.lines)
    → (r final : Recording) (event : link.Event) (after : Result Recording EventFault) → recorded r event ≡ after
    → onward go r after ≡ None → onward goes r after ≡ Some final → length r.lines + suc n ≤ length final.lines
long-onward n go goes below r final event (Ok new) is none h =
    omega (arith, grows r new event is, below new final none h)
long-onward n go goes below r final event (Err fault) is none h = cc none

long-further : (n : ℕ) (go goes : Goes) →
    ((at : Place) (r final : Recording) → go at r ≡ None → goes at r ≡ Some final
    → length r.lines + n ≤ length final.lines)
    → (r final : Recording) (step : Next) → further go r step ≡ None → further goes r step ≡ Some final
    → length r.lines + suc n ≤ length final.lines
long-further n go goes below r final None none h = cc none
long-further n go goes below r final (Some step) none h =
    long-onward n (go step.1) (goes step.1) (below step.1) r final step.0 (recorded r step.0) refl none h

-- a session that hasn't ended after so many events has as many lines more
long : (n m : ℕ) (s : Session) (at : Place) (r final : Recording) → simulated n s at r ≡ None
    → simulated m s at r ≡ Some final → length r.lines + n ≤ length final.lines
unfolding simulated
long zero m s at r final none h = omega (arith, kept m s at r final h)
long (suc n) zero s at r final none h = cc h
long (suc n) (suc m) s at r final none h =
    long-further n (simulated n s) (simulated m s) (λ after new last. long n m s after new last) r final
    (next s at r.last) none h

-- ---- the text

lines-long : (lines : List Line) → length lines ≤ length (lines_text lines)
lines-long [] = omega arith
lines-long (line ∷ lines) =
    omega (
      arith,
      lines-long lines,
      length-append (line_text line) (codes "\n" ++ lines_text lines),
      length-append (codes "\n") (lines_text lines),
    )

text-long : (r : Recording) → length r.lines < length (exchange_text (exchange_of r))
text-long r =
    let lines = lines_text (closed r) in
    let atr = codes "atr " ++ octets_text r.atr in
    omega (
      arith,
      lines-long (closed r),
      length-append r.lines (untold r),
      length-append (header_text One) (codes "\n" ++ (atr ++ (codes "\n" ++ lines))),
      length-append (codes "\n") (atr ++ (codes "\n" ++ lines)),
      length-append atr (codes "\n" ++ lines),
      length-append (codes "\n") lines,
    )

-- where a session hasn't ended after so many events, the text of its end has more octets than that
pub too-long : (n : ℕ) (s : Session) (ifsc : ℕ) (final : Recording)
    → simulated n s (start s) (new_recording s.atr ifsc) ≡ None → EndsAs s ifsc final
    → n < length (exchange_text (exchange_of final))
too-long n s ifsc final none (m, h) = omega
    (arith, long n m s (start s) (new_recording s.atr ifsc) final none h, text-long final)

-- ---- one end

once-onward : (go goes : Recording → Option Recording) → ((r a b : Recording) → go r ≡ Some a → goes r ≡ Some b → a ≡ b)
    → (r a b : Recording) (after : Result Recording EventFault) → onward go r after ≡ Some a
    → onward goes r after ≡ Some b → a ≡ b
once-onward go goes below r a b (Ok new) h g = below new a b h g
once-onward go goes below r a b (Err fault) h g = cc (h, g)

once-further : (go goes : Goes) → ((at : Place) (r a b : Recording) → go at r ≡ Some a → goes at r ≡ Some b → a ≡ b)
    → (r a b : Recording) (step : Next) → further go r step ≡ Some a → further goes r step ≡ Some b → a ≡ b
once-further go goes below r a b None h g = cc (h, g)
once-further go goes below r a b (Some step) h g =
    once-onward (go step.1) (goes step.1) (below step.1) r a b (recorded r step.0) h g

once : (n m : ℕ) (s : Session) (at : Place) (r a b : Recording) → simulated n s at r ≡ Some a
    → simulated m s at r ≡ Some b → a ≡ b
unfolding simulated
once zero m s at r a b h g = cc h
once (suc n) zero s at r a b h g = cc g
once (suc n) (suc m) s at r a b h g = once-further (simulated n s) (simulated m s)
    (λ after new x y. once n m s after new x y) r a b (next s at r.last) h g

-- a session ends in one record
pub one-end : (s : Session) (ifsc : ℕ) (a b : Recording) → EndsAs s ifsc a → EndsAs s ifsc b → a ≡ b
one-end s ifsc a b (n, h) (m, g) = once n m s (start s) (new_recording s.atr ifsc) a b h g
