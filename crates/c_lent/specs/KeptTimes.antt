-- The times of a line as C keeps them.
use Rattle.std.specs.Prelude.{◌≢◌, ℕ, ◌==◌, if◌then◌else◌, Option, Some, None}
use Rattle.atr_core.specs.T1.{T1Values, IsUsable}
use Rattle.judge_times.specs.declared.timing.Sent.{Sent}
use Rattle.judge_times.specs.declared.clocked.Clocked.{Clocked}
use Rattle.judge_times.specs.declared.clocked.Moments.{Moments}
use Rattle.judge_times.specs.Waiting.{Rates}
use Rattle.c_lent.specs.declared.kept_times.CMoments.{CMoments}
use Rattle.c_lent.specs.declared.kept_times.CTimes.{CTimes}

-- F or D; 0 if it isn't known
abbrev pub rate_in : ℕ → Option ℕ
rate_in rate = if rate == 0 then None else Some rate

abbrev pub rates_in : ℕ → ℕ → Rates
rates_in fi di = (rate_in fi, rate_in di)

-- a number, if its mark isn't 0
abbrev pub known_in : ℕ → ℕ → Option ℕ
known_in has number = if has == 0 then None else Some number

abbrev pub moments_of : CMoments → Moments
moments_of c = record { first = known_in c.has_first c.first; last = known_in c.has_last c.last }

-- octets of which a moment is known, if their mark isn't 0
abbrev pub sent_in : ℕ → ℕ → ℕ → Option Sent
sent_in has moment octets = if has == 0 then None else Some (record { moment = moment; octets = octets })

-- the parameters of T=1 in the state
abbrev pub values_of : CTimes → T1Values
values_of c = record { ifsc = c.ifsc; bwi = c.bwi; cwi = c.cwi }

-- A state that a call left has valid parameters of T=1, and the frequency of a clock.
pub record IsBegun (c : CTimes) : Type 0 where
  pub params : IsUsable (values_of c)
  pub clock : c.hertz ≢ 0

-- the times with this state
abbrev pub clocked_of : CTimes → Clocked
clocked_of c = record {
  params = values_of c;
  clock = c.hertz;
  least = c.least;
  timing = record {
    rates = rates_in c.fi c.di;
    now = None;
    until = None;
    sent = sent_in c.has_sent c.sent_moment c.sent_octets;
    came = sent_in c.has_came c.came_moment c.came_octets;
  };
}
