-- The names of instructions and status bytes in ISO/IEC 7816-4:2005.
use Rattle.std.specs.Prelude.{ℕ, List, [], ◌∷◌, codes}

-- the names of instruction codes (5.1.2, table 4.2)
unfoldable pub instructions : List (ℕ × List ℕ)
instructions =
    (0x04, codes "DEACTIVATE FILE") ∷
    (0x0C, codes "ERASE RECORD") ∷
    (0x0E, codes "ERASE BINARY") ∷
    (0x0F, codes "ERASE BINARY") ∷
    (0x10, codes "PERFORM SCQL OPERATION") ∷
    (0x12, codes "PERFORM TRANSACTION OPERATION") ∷
    (0x14, codes "PERFORM USER OPERATION") ∷
    (0x20, codes "VERIFY") ∷
    (0x21, codes "VERIFY") ∷
    (0x22, codes "MANAGE SECURITY ENVIRONMENT") ∷
    (0x24, codes "CHANGE REFERENCE DATA") ∷
    (0x26, codes "DISABLE VERIFICATION REQUIREMENT") ∷
    (0x28, codes "ENABLE VERIFICATION REQUIREMENT") ∷
    (0x2A, codes "PERFORM SECURITY OPERATION") ∷
    (0x2C, codes "RESET RETRY COUNTER") ∷
    (0x44, codes "ACTIVATE FILE") ∷
    (0x46, codes "GENERATE ASYMMETRIC KEY PAIR") ∷
    (0x70, codes "MANAGE CHANNEL") ∷
    (0x82, codes "EXTERNAL or MUTUAL AUTHENTICATE") ∷
    (0x84, codes "GET CHALLENGE") ∷
    (0x86, codes "GENERAL AUTHENTICATE") ∷
    (0x87, codes "GENERAL AUTHENTICATE") ∷
    (0x88, codes "INTERNAL AUTHENTICATE") ∷
    (0xA0, codes "SEARCH BINARY") ∷
    (0xA1, codes "SEARCH BINARY") ∷
    (0xA2, codes "SEARCH RECORD") ∷
    (0xA4, codes "SELECT") ∷
    (0xB0, codes "READ BINARY") ∷
    (0xB1, codes "READ BINARY") ∷
    (0xB2, codes "READ RECORD") ∷
    (0xB3, codes "READ RECORD") ∷
    (0xC0, codes "GET RESPONSE") ∷
    (0xC2, codes "ENVELOPE") ∷
    (0xC3, codes "ENVELOPE") ∷
    (0xCA, codes "GET DATA") ∷
    (0xCB, codes "GET DATA") ∷
    (0xD0, codes "WRITE BINARY") ∷
    (0xD1, codes "WRITE BINARY") ∷
    (0xD2, codes "WRITE RECORD") ∷
    (0xD6, codes "UPDATE BINARY") ∷
    (0xD7, codes "UPDATE BINARY") ∷
    (0xDA, codes "PUT DATA") ∷
    (0xDB, codes "PUT DATA") ∷
    (0xDC, codes "UPDATE RECORD") ∷
    (0xDD, codes "UPDATE RECORD") ∷
    (0xE0, codes "CREATE FILE") ∷
    (0xE2, codes "APPEND RECORD") ∷
    (0xE4, codes "DELETE FILE") ∷
    (0xE6, codes "TERMINATE DF") ∷
    (0xE8, codes "TERMINATE EF") ∷
    (0xFE, codes "TERMINATE CARD USAGE") ∷ []

-- the meaning of status bytes (5.1.3, tables 5 and 6), except those that have a number in SW2
unfoldable pub statuses : List (ℕ × ℕ × List ℕ)
statuses =
    (0x90, 0x00, codes "no further qualification") ∷
    (0x62, 0x00, codes "no information given, memory unchanged") ∷
    (0x62, 0x81, codes "part of the data may be corrupted") ∷
    (0x62, 0x82, codes "end of file or record reached before Ne octets") ∷
    (0x62, 0x83, codes "selected file deactivated") ∷
    (0x62, 0x84, codes "file control information not formatted") ∷
    (0x62, 0x85, codes "selected file in termination state") ∷
    (0x62, 0x86, codes "no input from a sensor on the card") ∷
    (0x63, 0x00, codes "no information given, memory changed") ∷
    (0x63, 0x81, codes "file filled up by the last write") ∷
    (0x64, 0x00, codes "execution error, memory unchanged") ∷
    (0x64, 0x01, codes "immediate response required by the card") ∷
    (0x65, 0x00, codes "no information given, memory changed") ∷
    (0x65, 0x81, codes "memory failure") ∷
    (0x66, 0x00, codes "security-related issue") ∷
    (0x67, 0x00, codes "wrong length") ∷
    (0x68, 0x00, codes "functions in the class not supported") ∷
    (0x68, 0x81, codes "logical channel not supported") ∷
    (0x68, 0x82, codes "secure messaging not supported") ∷
    (0x68, 0x83, codes "last command of the chain expected") ∷
    (0x68, 0x84, codes "command chaining not supported") ∷
    (0x69, 0x00, codes "command not allowed") ∷
    (0x69, 0x81, codes "command incompatible with file structure") ∷
    (0x69, 0x82, codes "security status not satisfied") ∷
    (0x69, 0x83, codes "authentication method blocked") ∷
    (0x69, 0x84, codes "reference data not usable") ∷
    (0x69, 0x85, codes "conditions of use not satisfied") ∷
    (0x69, 0x86, codes "command not allowed, no current file") ∷
    (0x69, 0x87, codes "secure messaging data objects missing") ∷
    (0x69, 0x88, codes "secure messaging data objects incorrect") ∷
    (0x6A, 0x00, codes "wrong parameters, no information given") ∷
    (0x6A, 0x80, codes "incorrect parameters in the data field") ∷
    (0x6A, 0x81, codes "function not supported") ∷
    (0x6A, 0x82, codes "file or application not found") ∷
    (0x6A, 0x83, codes "record not found") ∷
    (0x6A, 0x84, codes "not enough memory space in the file") ∷
    (0x6A, 0x85, codes "Nc inconsistent with data objects") ∷
    (0x6A, 0x86, codes "incorrect parameters P1-P2") ∷
    (0x6A, 0x87, codes "Nc inconsistent with parameters P1-P2") ∷
    (0x6A, 0x88, codes "referenced data or reference data not found") ∷
    (0x6A, 0x89, codes "file already exists") ∷
    (0x6A, 0x8A, codes "DF name already exists") ∷
    (0x6B, 0x00, codes "wrong parameters P1-P2") ∷
    (0x6D, 0x00, codes "instruction code not supported or invalid") ∷
    (0x6E, 0x00, codes "class not supported") ∷
    (0x6F, 0x00, codes "no precise diagnosis") ∷ []
