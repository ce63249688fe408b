-- What a receiver keeps, over octets that come.
use Rattle.std.proofs.Common.{◌≡◌, ℕ, ◌+◌, ◌*◌, ◌≤◌, ◌++◌, List, [], ◌∷◌, length, refl, sym, ap, subst, ◌∙◌, arith, Bool, true, false, not, append_assoc, Some, None}
use Rattle.std.proofs.lemmas.List.{append-nil, take_at}
use Rattle.octet_core.specs.Octets.{AreOctets}
use Rattle.octet_core.specs.Grammar.{Begins, RefusesAt, self_ended, IsFirst}
use Rattle.octet_core.specs.declared.stop.Refusal.{Refusal}
use Rattle.octet_core.specs.declared.stop.Stop.TheVariants.{At}
use Rattle.block_core.specs.declared.pcb.Number.{Number}
use Rattle.block_core.specs.Block as block
use Rattle.block_core.specs.Block.{other}
use Rattle.chain_core.specs.declared.reason.ChainReason.{ChainReason}
use Rattle.chain_core.specs.declared.stage.BlockStage as stage
use Rattle.chain_core.specs.Chain.{IsChain, IsReason, MeetsInBlock, all_reasons, message_of, open_blocks, octets_of, chain_block, number_after}
use Rattle.chain_core.specs.Stage.{more_count}
use Rattle.chain_core.specs.Taking.{Taking, HasTaken, AreTaken, IsOpen}
use Rattle.chain_core.specs.Receiving.{Goes}
use Rattle.chain_core.specs.Lent.{under_way_of, IsUnderWay}
use Rattle.chain_core.proofs.Goes.{chain-begins, spelling-mid, message-append, count-append}
use Rattle.chain_core.proofs.Reasons.{IsPart}
use Rattle.chain_core.proofs.Receiving.{begun-taken, way-under, way-begins, refused-in_block}
use Rattle.chain_core.proofs.Feeds.{some_is, none_some}
use Rattle.chain_core.proofs.Taken.{length-taken}

-- what a receiver under way has taken
under-way : (r : Taking) (t : List ℕ) → r.done ≡ false → (h : HasTaken r t)
    → AreTaken false r.number h.fields r.under_way t
under-way r t still h = subst (λ (d : Bool). AreTaken d r.number h.fields r.under_way t) still h.taken

-- these are its whole blocks, and then the octets of the block under way
pub open-is : (r : Taking) (t : List ℕ) → r.done ≡ false → (h : HasTaken r t)
    → t ≡ octets_of (open_blocks r.number h.fields) ++ r.under_way
open-is r t still h = (under-way r t still h).1

-- more octets of the block under way
pub more-goes : (r : Taking) (came : ℕ) (p : stage.BlockStage) (field xs : List ℕ) → IsOpen r → length field ≤ came
    → IsUnderWay r.ifs r.max r.blocks (length r.joined) came p → r.blocks + 1 ≤ 131072 → length r.joined ≤ r.max
    → AreOctets field
    → under_way_of (number_after r.number r.blocks) p field ≡ r.under_way ++ xs
    → Goes r (record r { under_way = under_way_of (number_after r.number r.blocks) p field }) xs
more-goes r came p field xs free short way few fits octets e =
    let S : List (List ℕ) → List ℕ → Type 0 = IsChain r.ifs r.number r.max in
    let c : List ℕ = under_way_of (number_after r.number r.blocks) p field in
    record {
      ifs = refl;
      number = refl;
      max = refl;
      on = λ none t g.
          let opened : List ℕ = octets_of (open_blocks r.number g.fields) in
          let t-is : t ≡ opened ++ r.under_way = open-is r t free.1 g in
          let all : t ++ xs ≡ opened ++ c =
          ap (λ (l : List ℕ). l ++ xs) t-is ∙ append_assoc opened r.under_way xs
          ∙ ap (λ (l : List ℕ). opened ++ l) (sym e) in
          let own : IsUnderWay r.ifs r.max (length g.fields) (length (message_of g.fields)) came p =
          subst (λ (n : ℕ). IsUnderWay r.ifs r.max n (length (message_of g.fields)) came p) (sym g.blocks)
          (subst (λ (l : List ℕ). IsUnderWay r.ifs r.max r.blocks (length l) came p) (sym g.joined) way) in
          let begun : Begins S (opened ++ c) =
          subst (λ (n : ℕ). Begins S (opened ++ under_way_of (number_after r.number n) p field)) g.blocks
          (way-begins r.ifs r.number r.max g.fields came p field
          (begun-taken r.ifs r.max r.number g.fields r.under_way t t-is g.begun) (omega (arith, few, g.blocks))
          (omega (arith, fits, ap length g.joined)) short own octets) in
          record {
            kept = free.0;
            begun = subst (Begins S) (sym all) begun;
            fields = g.fields;
            blocks = g.blocks;
            joined = g.joined;
            taken = subst (λ (d : Bool). AreTaken d r.number g.fields c (t ++ xs)) (sym free.1) (
              way-under (number_after r.number r.blocks) r.ifs r.max r.blocks (length r.joined) came p field short
                  way,
              all,
            );
          };
      refused = λ refusal f. none_some r.refusal refusal free.0 f;
      before = λ refusal f. none_some r.refusal refusal free.0 f;
    }

-- an octet of it that is refused
pub refused-goes : (r : Taking) (x place : ℕ) (reason : ChainReason) → IsOpen r → r.ifs ≤ 254
    → IsPart (r.under_way ++ x ∷ []) → place ≡ length r.joined + 4 * r.blocks + length r.under_way
    → ((before : List (List ℕ)) → length before ≡ r.blocks → message_of before ≡ r.joined
    → IsFirst all_reasons (MeetsInBlock r.ifs r.number r.max before (r.under_way ++ x ∷ [])) reason)
    → Goes r (record r { refusal = Some (record { place = place; reason = reason }) }) (x ∷ [])
refused-goes r x place reason free most part place-is first =
    let At-all : List ℕ → ℕ → ChainReason → Type 0 =
    λ l at why. RefusesAt self_ended (IsChain r.ifs r.number r.max) (IsReason r.ifs r.number r.max) (l ++ x ∷ [])
    (At at why) in
    let now : Refusal ChainReason = record { place = place; reason = reason } in
    record {
      ifs = refl;
      number = refl;
      max = refl;
      on = λ none. absurd (let bad : Some now ≡ None = none in cc);
      refused = λ refusal e t g.
          let own = under-way r t free.1 g in
          let begun : Begins (IsChain r.ifs r.number r.max) (octets_of (open_blocks r.number g.fields) ++ r.under_way) =
          subst (Begins (IsChain r.ifs r.number r.max)) own.1 g.begun in
          let one = refused-in_block r.ifs r.max r.number g.fields r.under_way x reason most begun own.0 part
          (first g.fields g.blocks g.joined) in
          let here : length t ≡ place = omega (arith, length-taken r t g, place-is) in
          subst (λ (f : Refusal ChainReason). At-all t f.place f.reason) (some_is now refusal e)
          (subst (λ (k : ℕ). At-all t k reason) here
          (subst (λ (l : List ℕ). At-all l (length l) reason) (sym own.1) one));
      before = λ refusal e t g.
          let own = under-way r t free.1 g in
          let here : length t ≡ refusal.place =
          omega (
            arith,
            length-taken r t g,
            place-is,
            ap (λ (f : Refusal ChainReason). f.place) (some_is now refusal e),
          ) in
          record {
            fields = g.fields;
            part = r.under_way;
            count = g.blocks;
            message = g.joined;
            taken = (own.0, take_at t (x ∷ []) refusal.place here ∙ own.1);
          };
    }

-- one block more
open-mid : (number : Number) (before : List (List ℕ)) (f : List ℕ)
    → octets_of (open_blocks number (before ++ f ∷ [])) ≡ octets_of (open_blocks number before)
    ++ block.spelling (chain_block (number_after number (length before)) true f)
open-mid number [] f = append-nil (block.spelling (chain_block number true f))
open-mid number (g ∷ fs) f =
    let a : List ℕ = block.spelling (chain_block number true g) in
    ap (λ (l : List ℕ). a ++ l) (open-mid (other number) fs f)
    ∙ sym (append_assoc a (octets_of (open_blocks (other number) fs))
    (block.spelling (chain_block (number_after number (length (g ∷ fs))) true f)))

joined-text : (number : Number) (more : Bool) (fields : List (List ℕ)) (inf : List ℕ) (t : List ℕ)
    → t ≡ octets_of (open_blocks number fields)
    ++ block.spelling (chain_block (number_after number (length fields)) more inf)
    → AreTaken (not more) number (fields ++ inf ∷ []) [] t
joined-text number true fields inf t e = (
  λ lt. absurd (omega arith),
  e ∙ sym (open-mid number fields inf)
      ∙ sym (append-nil (octets_of (open_blocks number (fields ++ inf ∷ [])))),
)
joined-text number false fields inf t e = (
  omega (arith, count-append fields (inf ∷ [])),
  refl,
  e
      ∙ ap (λ (l : List ℕ). octets_of (open_blocks number fields) ++ l)
      (sym (append-nil (block.spelling (chain_block (number_after number (length fields)) false inf))))
      ∙ sym (spelling-mid number fields inf []),
)

-- the LRC of a block, whose field then joins the message
pub joined-goes : (r : Taking) (more : Bool) (field xs : List ℕ) → IsOpen r → length field ≤ r.ifs → AreOctets field
    → r.blocks + 1 + more_count more ≤ 131072 → length r.joined + length field ≤ r.max
    → r.under_way ++ xs ≡ block.spelling (chain_block (number_after r.number r.blocks) more field)
    → Goes r (record r { blocks = r.blocks + 1; joined = r.joined ++ field; under_way = []; done = not more }) xs
joined-goes r more field xs free size octets few fits e = record {
  ifs = refl;
  number = refl;
  max = refl;
  on = λ none t g.
      let fields : List (List ℕ) = g.fields in
      let opened : List ℕ = octets_of (open_blocks r.number fields) in
      let t-is : t ≡ opened ++ r.under_way = open-is r t free.1 g in
      let text : t ++ xs ≡ opened ++ block.spelling (chain_block (number_after r.number (length fields)) more field) =
      ap (λ (l : List ℕ). l ++ xs) t-is ∙ append_assoc opened r.under_way xs ∙ ap (λ (l : List ℕ). opened ++ l) e
      ∙ ap (λ (n : ℕ). opened ++ block.spelling (chain_block (number_after r.number n) more field)) (sym g.blocks) in
      record {
        kept = free.0;
        begun = subst (Begins (IsChain r.ifs r.number r.max)) (sym text)
            (chain-begins r.ifs r.number r.max fields more field
            (begun-taken r.ifs r.max r.number fields r.under_way t t-is g.begun) (omega (arith, few, g.blocks)) size
            octets (omega (arith, fits, ap length g.joined)));
        fields = fields ++ field ∷ [];
        blocks = omega (arith, count-append fields (field ∷ []), g.blocks);
        joined = message-append fields (field ∷ []) ∙ ap (λ (l : List ℕ). l ++ (field ++ [])) g.joined
            ∙ ap (λ (l : List ℕ). r.joined ++ l) (append-nil field);
        taken = joined-text r.number more fields field (t ++ xs) text;
      };
  refused = λ refusal f. none_some r.refusal refusal free.0 f;
  before = λ refusal f. none_some r.refusal refusal free.0 f;
}
