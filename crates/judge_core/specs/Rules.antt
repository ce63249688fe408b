-- The names of the rules, and their clauses in ISO/IEC 7816-3:2006. The numbers of rules within 11.6.2.3 and 11.6.3.2
-- are from memory, since the text of the standard isn't at hand.
use Rattle.std.specs.Prelude.{ℕ, List, [], ◌∷◌, codes}
use Rattle.judge_core.specs.declared.rule.Rule.{Rule}
use Rattle.judge_core.specs.declared.rule.Rule.TheVariants as rule

abbrev pub rule_name : Rule → List ℕ
rule_name rule.NodeAddress = codes "node address"
rule_name rule.ControlOctet = codes "control octet"
rule_name rule.Length = codes "length"
rule_name rule.CheckOctet = codes "check octet"
rule_name rule.ReservedSize = codes "reserved size"
rule_name rule.FieldSize = codes "field too long"
rule_name rule.Turn = codes "out of turn"
rule_name rule.ForeignRequest = codes "request of the other end"
rule_name rule.SequenceNumber = codes "sequence number"
rule_name rule.BlockDue = codes "no I-block"
rule_name rule.AcknowledgmentDue = codes "no acknowledgment"
rule_name rule.ErrorCode = codes "error code"
rule_name rule.RepeatDue = codes "no repeat"
rule_name rule.RepeatedOctets = codes "repeat with other octets"
rule_name rule.CorrectionDue = codes "no R-block"
rule_name rule.RequestDue = codes "no repeated request"
rule_name rule.ResponseDue = codes "no response"
rule_name rule.ResponseOctet = codes "response with another octet"
rule_name rule.Unasked = codes "response to no request"
rule_name rule.NoChain = codes "ABORT outside a chain"
rule_name rule.EarlyResynch = codes "RESYNCH too early"
rule_name rule.TooManyRepeats = codes "too many repeats"
rule_name rule.Silence = codes "no block"

abbrev pub rule_clause : Rule → List ℕ
rule_clause rule.NodeAddress = codes "11.3.2.1"
rule_clause rule.ControlOctet = codes "11.3.2.2"
rule_clause rule.Length = codes "11.3.2.3"
rule_clause rule.CheckOctet = codes "11.3.4"
rule_clause rule.ReservedSize = codes "11.4.2"
rule_clause rule.FieldSize = codes "11.4.2"
rule_clause rule.Turn = codes "11.6.2.3 rule 1"
rule_clause rule.ForeignRequest = codes "11.6.2.3 rule 3, 11.6.3.2 rule 6"
rule_clause rule.SequenceNumber = codes "11.6.2.3 rule 2.1, 11.6.3.2 rule 7.1"
rule_clause rule.BlockDue = codes "11.6.2.3 rule 2.1"
rule_clause rule.AcknowledgmentDue = codes "11.6.2.3 rule 2.2"
rule_clause rule.ErrorCode = codes "11.6.2.3 rule 2.2"
rule_clause rule.RepeatDue = codes "11.6.3.2 rule 7.1"
rule_clause rule.RepeatedOctets = codes "11.6.3.2 rule 7.1"
rule_clause rule.CorrectionDue = codes "11.6.3.2 rules 7.1 and 7.2"
rule_clause rule.RequestDue = codes "11.6.3.2 rule 7.3"
rule_clause rule.ResponseDue = codes "11.6.2.3 rules 3 and 4, 11.6.3.2 rules 6 and 9"
rule_clause rule.ResponseOctet = codes "11.6.2.3 rules 3 and 4"
rule_clause rule.Unasked = codes "11.6.2.3 rules 3 and 4"
rule_clause rule.NoChain = codes "11.6.3.2 rule 9"
rule_clause rule.EarlyResynch = codes "11.6.3.2 rule 6"
rule_clause rule.TooManyRepeats = codes "11.6.3.2 rule 7.4"
rule_clause rule.Silence = codes "11.6.2.3 rule 1"

-- all rules
abbrev pub rules : List Rule
rules =
    rule.NodeAddress ∷ rule.ControlOctet ∷ rule.Length ∷ rule.CheckOctet ∷ rule.ReservedSize ∷ rule.FieldSize ∷
    rule.Turn ∷ rule.ForeignRequest ∷ rule.SequenceNumber ∷ rule.BlockDue ∷ rule.AcknowledgmentDue ∷ rule.ErrorCode ∷
    rule.RepeatDue ∷ rule.RepeatedOctets ∷ rule.CorrectionDue ∷ rule.RequestDue ∷ rule.ResponseDue ∷
    rule.ResponseOctet ∷ rule.Unasked ∷ rule.NoChain ∷ rule.EarlyResynch ∷ rule.TooManyRepeats ∷ rule.Silence ∷ []

-- the place of a rule among all rules, from 0
abbrev pub rule_place : Rule → ℕ
rule_place rule.NodeAddress = 0
rule_place rule.ControlOctet = 1
rule_place rule.Length = 2
rule_place rule.CheckOctet = 3
rule_place rule.ReservedSize = 4
rule_place rule.FieldSize = 5
rule_place rule.Turn = 6
rule_place rule.ForeignRequest = 7
rule_place rule.SequenceNumber = 8
rule_place rule.BlockDue = 9
rule_place rule.AcknowledgmentDue = 10
rule_place rule.ErrorCode = 11
rule_place rule.RepeatDue = 12
rule_place rule.RepeatedOctets = 13
rule_place rule.CorrectionDue = 14
rule_place rule.RequestDue = 15
rule_place rule.ResponseDue = 16
rule_place rule.ResponseOctet = 17
rule_place rule.Unasked = 18
rule_place rule.NoChain = 19
rule_place rule.EarlyResynch = 20
rule_place rule.TooManyRepeats = 21
rule_place rule.Silence = 22
