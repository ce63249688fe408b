-- The grammar, computed on octets from outside.
use Rattle.std.proofs.Common.{◌≡◌, ◌≤◌, ◌+◌, ◌*◌, ℕ, zero, suc, List, [], ◌∷◌, length, refl, arith, inl, inr}
use Rattle.octet_core.proofs.Lists.{octets_by}
use Rattle.octet_core.specs.Grammar.{IsFirst}
use Rattle.tlv_core.specs.declared.form.Form.TheVariants.{One, Two, Three, Four, Five}
use Rattle.tlv_core.specs.declared.reason.TlvReason.TheVariants.{TooDeep, TagSecond, TagLong, LengthForm, Overrun, TooLong}
use Rattle.tlv_core.specs.Tree.{Tree, End, Filler, Primitive, Constructed}
use Rattle.tlv_core.specs.Forest.{IsForest}
use Rattle.tlv_core.specs.Parts.{preorder}
use Rattle.tlv_core.specs.Reasons.{Opens, IsReason}
use Rattle.tlv_core.specs.Dol.{IsDol}
use Rattle.tlv_core.proofs.Completion.{not_begins}

abbrev name : List ℕ
name = 0xA0 ∷ 0x00 ∷ 0x00 ∷ 0x00 ∷ 0x04 ∷ 0x10 ∷ 0x10 ∷ []

-- the answer to the selection of an application: its name, and an object with one whose value is empty
abbrev selected : Tree
selected = Constructed (0x6F ∷ []) One (Primitive (0x84 ∷ []) One name
    (Constructed (0xA5 ∷ []) One (Constructed (0xBF ∷ 0x0C ∷ []) One (Primitive (0x50 ∷ []) One [] End) End) End)) End

-- 6F108407A0000000041010A505BF0C025000
abbrev selected_octets : List ℕ
selected_octets = 0x6F ∷ 0x10 ∷ 0x84 ∷ 0x07 ∷ 0xA0 ∷ 0x00 ∷ 0x00 ∷ 0x00 ∷ 0x04 ∷ 0x10 ∷ 0x10 ∷ 0xA5 ∷ 0x05 ∷ 0xBF ∷ 0x0C
    ∷ 0x02 ∷ 0x50 ∷ 0x00 ∷ []

selected-is : IsForest 18 selected selected_octets
selected-is =
    record {
      proper = (
        record {
          depth = omega arith;
          is_tag = (omega arith, omega arith, omega arith);
          is_bit = refl;
          fits =
              omega arith;
        },
        (
          record {
            depth = omega arith;
            is_tag = (omega arith, omega arith, omega arith);
            is_bit = refl;
            fits =
                omega arith;
          },
          octets_by name refl,
          (
            record {
              depth = omega arith;
              is_tag = (omega arith, omega arith, omega arith);
              is_bit = refl;
              fits =
                  omega arith;
            },
            (
              record {
                depth = omega arith;
                is_tag = (omega arith, refl, omega arith, omega arith);
                is_bit =
                    refl;
                fits = omega arith;
              },
              (
                record {
                  depth = omega arith;
                  is_tag = (omega arith, omega arith, omega arith);
                  is_bit = refl;
                  fits =
                      omega arith;
                },
                octets_by [] refl,
                tt,
              ),
              tt,
            ),
            tt,
          ),
        ),
        tt,
      );
      is = refl;
      size = omega arith;
    }

-- where its values stand
selected-parts : preorder 1 0 selected
    ≡ record { depth = 1; tag = 0x6F ∷ []; form = One; place = 2; len = 16 } ∷ record
    { depth = 2; tag = 0x84 ∷ []; form = One; place = 4; len = 7 } ∷ record
    { depth = 2; tag = 0xA5 ∷ []; form = One; place = 13; len = 5 }
    ∷ record { depth = 3; tag = 0xBF ∷ 0x0C ∷ []; form = One; place = 16; len = 2 } ∷ record
    { depth = 4; tag = 0x50 ∷ []; form = One; place = 18; len = 0 } ∷ []
selected-parts = refl

-- 00005A81011200: fillers, and a length field that is longer than it has to be
padded-is : IsForest 7 (Filler (Filler (Primitive (0x5A ∷ []) Two (0x12 ∷ []) (Filler End))))
    (0x00 ∷ 0x00 ∷ 0x5A ∷ 0x81 ∷ 0x01 ∷ 0x12 ∷ 0x00 ∷ [])
padded-is = record {
  proper = (
    record {
      depth = omega arith;
      is_tag = (omega arith, omega arith, omega arith);
      is_bit =
          refl;
      fits = omega arith;
    },
    octets_by (0x12 ∷ []) refl,
    tt,
  );
  is = refl;
  size = omega arith;
}

-- 5A820001125A83000001125A840000000112: length fields of three, four and five octets
long_fields-is : IsForest 18 (Primitive (0x5A ∷ []) Three (0x12 ∷ [])
    (Primitive (0x5A ∷ []) Four (0x12 ∷ []) (Primitive (0x5A ∷ []) Five (0x12 ∷ []) End)))
    (0x5A ∷ 0x82 ∷ 0x00 ∷ 0x01 ∷ 0x12 ∷ 0x5A ∷ 0x83 ∷ 0x00 ∷ 0x00 ∷ 0x01 ∷ 0x12 ∷ 0x5A ∷ 0x84 ∷ 0x00 ∷ 0x00 ∷ 0x00 ∷
    0x01 ∷ 0x12 ∷ [])
long_fields-is = record {
  proper = (
    record { depth = omega arith; is_tag = (omega arith, omega arith, omega arith); is_bit = refl; fits = omega arith },
    octets_by (0x12 ∷ []) refl,
    (
      record {
        depth = omega arith;
        is_tag = (omega arith, omega arith, omega arith);
        is_bit = refl;
        fits =
            omega arith;
      },
      octets_by (0x12 ∷ []) refl,
      (
        record {
          depth = omega arith;
          is_tag = (omega arith, omega arith, omega arith);
          is_bit = refl;
          fits =
              omega arith;
        },
        octets_by (0x12 ∷ []) refl,
        tt,
      ),
    ),
  );
  is = refl;
  size = omega arith;
}

-- 9F80: a second tag octet whose low seven bits are all 0
tag_second : IsReason 18 TagSecond (0x9F ∷ 0x80 ∷ [])
unfolding IsFirst
tag_second = (
  record {
    before = 0x9F ∷ [];
    octet = 0x80;
    rooms = [];
    header = 0x9F ∷ [];
    is = refl;
    opens = record { done = End; proper = tt; is = refl };
    begun = record {
      tag = 0x9F ∷ 0x02 ∷ [];
      form = One;
      n = 0;
      next = 0x02;
      more = 0x00 ∷ [];
      is_tag =
          (omega arith, refl, omega arith, omega arith);
      fits = omega arith;
      is = refl;
    };
  },
  inr (λ m. absurd (omega (arith, m.1)), inl ((refl, refl), refl)),
)

-- 9F8180: a third tag octet with bit 8
tag_long : IsReason 18 TagLong (0x9F ∷ 0x81 ∷ 0x80 ∷ [])
unfolding IsFirst
tag_long = (
  record {
    before = 0x9F ∷ 0x81 ∷ [];
    octet = 0x80;
    rooms = [];
    header = 0x9F ∷ 0x81 ∷ [];
    is = refl;
    opens = record { done = End; proper = tt; is = refl };
    begun = record {
      tag = 0x9F ∷ 0x81 ∷ 0x01 ∷ [];
      form = One;
      n = 0;
      next = 0x01;
      more = 0x00 ∷ [];
      is_tag = (omega arith, refl, omega arith, omega arith, omega arith);
      fits = omega arith;
      is = refl;
    };
  },
  inr (λ m. absurd (omega (arith, m.1)), inr (λ m. m.0, inl (((refl, omega arith), omega arith), refl))),
)

-- 5A80: a length field that gives no number of octets
length_form : IsReason 18 LengthForm (0x5A ∷ 0x80 ∷ [])
unfolding IsFirst
length_form = (
  record {
    before = 0x5A ∷ [];
    octet = 0x80;
    rooms = [];
    header = 0x5A ∷ [];
    is = refl;
    opens = record { done = End; proper = tt; is = refl };
    begun = record {
      tag = 0x5A ∷ [];
      form = One;
      n = 0;
      next = 0x00;
      more = [];
      is_tag =
          (omega arith, omega arith, omega arith);
      fits = omega arith;
      is = refl;
    };
  },
  inr (
    λ m. absurd (omega (arith, m.1)),
    inr (
      λ m. absurd (omega (arith, m.0)),
      inr
          (λ m. m.0, inl (((omega arith, omega arith, omega arith), not_begins 0x80 0 refl (inl refl)), refl)),
    ),
  ),
)

-- 5A02 where three octets are allowed: the value would pass them
too_long : IsReason 3 TooLong (0x5A ∷ 0x02 ∷ [])
unfolding IsFirst
too_long = (
  record {
    before = 0x5A ∷ [];
    octet = 0x02;
    rooms = [];
    header = 0x5A ∷ [];
    is = refl;
    opens = record { done = End; proper = tt; is = refl };
    begun = record {
      tag = 0x5A ∷ [];
      form = One;
      n = 0;
      next = 0x00;
      more = [];
      is_tag =
          (omega arith, omega arith, omega arith);
      fits = omega arith;
      is = refl;
    };
  },
  inr (
    λ m. absurd (omega (arith, m.1)),
    inr (
      λ m. absurd (omega (arith, m.0)),
      inr (
        λ m. m.0,
        inr (
          λ m. m.1 (One, 2, [], omega arith, refl),
          inr (λ m. absurd (omega (arith, m.0)), inl ((refl, omega arith), refl)),
        ),
      ),
    ),
  ),
)

-- the headers of so many objects, each inside the one before, with two octets to come in the innermost
abbrev nested : ℕ → List ℕ
nested zero = []
nested (suc n) = 0x70 ∷ (length (nested n) + 2) ∷ nested n

abbrev two_each : ℕ → List ℕ
two_each zero = []
two_each (suc n) = 2 ∷ two_each n

nested-length : (n : ℕ) → length (nested n) ≡ n * 2
nested-length zero = refl
nested-length (suc n) = omega (arith, nested-length n)

nested-opens : (n d : ℕ) → n + d ≤ 17 → Opens d (two_each n) [] (nested n)
nested-opens zero d le = record { done = End; proper = tt; is = refl }
nested-opens (suc n) d le = (
  nested n,
  record {
    done = End;
    proper = tt;
    tag = 0x70 ∷ [];
    form = One;
    object =
        record {
          depth = omega arith;
          is_tag = (omega arith, omega arith, omega arith);
          is_bit = refl;
          fits =
              omega (arith, nested-length n);
        };
    open_yet = omega arith;
    is = refl;
  },
  nested-opens n (d + 1) (omega arith),
)

-- 7020701E701C701A70187016701470127010700E700C700A7008700670047002, and 70: an object inside the sixteenth
too_deep : IsReason 100 TooDeep
    (0x70 ∷ 0x20 ∷ 0x70 ∷ 0x1E ∷ 0x70 ∷ 0x1C ∷ 0x70 ∷ 0x1A ∷ 0x70 ∷ 0x18 ∷ 0x70 ∷ 0x16 ∷ 0x70 ∷ 0x14 ∷ 0x70 ∷ 0x12 ∷
    0x70 ∷ 0x10 ∷ 0x70 ∷ 0x0E ∷ 0x70 ∷ 0x0C ∷ 0x70 ∷ 0x0A ∷ 0x70 ∷ 0x08 ∷ 0x70 ∷ 0x06 ∷ 0x70 ∷ 0x04 ∷ 0x70 ∷ 0x02 ∷
    0x70 ∷ [])
unfolding IsFirst
too_deep = (
  record {
    before = nested 16;
    octet = 0x70;
    rooms = two_each 16;
    header = [];
    is = refl;
    opens = nested-opens 16 1 (omega arith);
    begun = record {
      tag = 0x5A ∷ [];
      form = One;
      n = 0;
      next = 0x5A;
      more = 0x00 ∷ [];
      is_tag =
          (omega arith, omega arith, omega arith);
      fits = omega arith;
      is = refl;
    };
  },
  inl ((refl, refl, λ e. omega (arith, e)), refl),
)

-- 70035A02: the value would pass the end of the object that is open
overrun : IsReason 18 Overrun (0x70 ∷ 0x03 ∷ 0x5A ∷ 0x02 ∷ [])
unfolding IsFirst
overrun = (
  record {
    before = 0x70 ∷ 0x03 ∷ 0x5A ∷ [];
    octet = 0x02;
    rooms = 2 ∷ [];
    header = 0x5A ∷ [];
    is = refl;
    opens = (
      0x5A ∷ [],
      record {
        done = End;
        proper = tt;
        tag = 0x70 ∷ [];
        form = One;
        object =
            record {
              depth = omega arith;
              is_tag = (omega arith, omega arith, omega arith);
              is_bit = refl;
              fits =
                  omega arith;
            };
        open_yet = omega arith;
        is = refl;
      },
      record { done = End; proper = tt; is = refl },
    );
    begun = record {
      tag = 0x5A ∷ [];
      form = One;
      n = 0;
      next = 0x00;
      more = [];
      is_tag =
          (omega arith, omega arith, omega arith);
      fits = omega arith;
      is = refl;
    };
  },
  inr (
    λ m. absurd (omega (arith, m.1)),
    inr (
      λ m. absurd (omega (arith, m.0)),
      inr
          (λ m. m.0, inr (λ m. m.1 (One, 2, [], omega arith, refl), inl ((omega arith, omega arith), refl))),
    ),
  ),
)

-- 9F02065F2A029A03
amounts-is : IsDol ((0x9F ∷ 0x02 ∷ [], 6) ∷ (0x5F ∷ 0x2A ∷ [], 2) ∷ (0x9A ∷ [], 3) ∷ [])
    (0x9F ∷ 0x02 ∷ 0x06 ∷ 0x5F ∷ 0x2A ∷ 0x02 ∷ 0x9A ∷ 0x03 ∷ [])
amounts-is = record {
  each = (
    (omega arith, refl, omega arith, omega arith),
    omega arith,
    (
      (omega arith, refl, omega arith, omega arith),
      omega arith,
      ((omega arith, omega arith, omega arith), omega arith, tt),
    ),
  );
  is = refl;
}
