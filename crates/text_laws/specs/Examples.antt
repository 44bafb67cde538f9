-- Examples of the request ("Change 4"), and points that are easily misread. A text is what it is quoted as; 10 is the
-- line feed, 13 the carriage return, 9 the tab.
use Rattle.std.specs.Prelude.{List, [], ◌∷◌, ◌++◌, ◌≡◌, ℕ, zero, suc, replicate}
use Prim.Native.String.{String}
use Rattle.refusals.specs.declared.check.Check.TheVariants as check
use Rattle.refusals.specs.Refusal.{refusal, refusal_at}
use Rattle.text.specs.Text.{Text, quoted}
use Rattle.assembler.specs.Assemble.{Assembly, assemble_of, Assembles, Refuses}
use Rattle.lister.specs.List as List
use Rattle.lister.specs.List.{Listing, list_of, Lists}

-- a source into an output with room for 200 halfwords, and a code into one for 200 bytes
abbrev pub assembled : String → Assembly
assembled s = assemble_of (quoted s) 200

abbrev pub listed : List ℕ → Listing
listed code = list_of code 200

-- n times HALT #0
abbrev pub halts : ℕ → Text
halts zero = []
halts (suc n) = quoted "HALT #0\n" ++ halts n

pub record Lines : Type 0 where
  -- the request's own
  pub add_pc : assembled "ADD R0, PC, #4\n" ≡ Assembles (0xA001 ∷ [])
  pub store : assembled "STR R1, [R0, #4]\n" ≡ Assembles (0x6041 ∷ [])
  pub halt : assembled "HALT #7\n" ≡ Assembles (0x0007 ∷ [])
  pub branch : assembled "a10:\nBEQ a10\n" ≡ Assembles (0xD000 ∷ [])
  -- CMP of two low registers has the ALU's form; ADD and MOV of two low registers have the high one only
  pub compare_low : assembled "CMP R0, R7\n" ≡ Assembles (0x4178 ∷ [])
  pub compare_high : assembled "CMP R0, R8\n" ≡ Assembles (0x4540 ∷ [])
  pub add_low : assembled "ADD R0, R1\n" ≡ Assembles (0x4408 ∷ [])
  pub move_low : assembled "MOV R0, R1\n" ≡ Assembles (0x4608 ∷ [])
  -- several labels before one instruction, and one behind the last; a branch there assembles
  pub behind : assembled "BLE end1\nx:\nend1:\n" ≡ Assembles (0xDD01 ∷ [])
  pub several : assembled "x:\ny:\nHALT #0\nBNE x\nBNE y\n" ≡ Assembles (0x0000 ∷ 0xD1FF ∷ 0xD1FE ∷ [])
  -- a name of eight characters
  pub long_name : assembled "abcdefg8:\nHALT #0\n" ≡ Assembles (0x0000 ∷ [])

-- 21, each at its line
pub record NoLines : Type 0 where
  pub no_feed : assembled "HALT #7" ≡ Refuses check.Line 1
  pub last_no_feed : assembled "HALT #7\nHALT #7" ≡ Refuses check.Line 2
  pub empty_line : assembled "HALT #7\n\n" ≡ Refuses check.Line 2
  pub space_more : assembled "MOV R0,  #5\n" ≡ Refuses check.Line 1
  pub space_less : assembled "MOV R0,#5\n" ≡ Refuses check.Line 1
  pub space_before : assembled " HALT #7\n" ≡ Refuses check.Line 1
  pub space_behind : assembled "HALT #7 \n" ≡ Refuses check.Line 1
  pub tab : assemble_of (quoted "HALT" ++ (9 ∷ quoted "#7\n")) 1 ≡ Refuses check.Line 1
  pub carriage_return : assemble_of (quoted "HALT #7" ++ (13 ∷ 10 ∷ [])) 1 ≡ Refuses check.Line 1
  pub high_byte : assemble_of (200 ∷ quoted ":\n") 1 ≡ Refuses check.Line 1
  pub small_letters : assembled "halt #7\n" ≡ Refuses check.Line 1
  pub capital_label : assembled "Loop:\nHALT #0\n" ≡ Refuses check.Line 1
  pub digit_label : assembled "1a:\nHALT #0\n" ≡ Refuses check.Line 1
  pub nine_label : assembled "abcdefghi:\nHALT #0\n" ≡ Refuses check.Line 1
  pub no_label : assembled ":\nHALT #0\n" ≡ Refuses check.Line 1
  pub label_and_more : assembled "a: HALT #0\n" ≡ Refuses check.Line 1
  pub register_16 : assembled "MOV R16, R0\n" ≡ Refuses check.Line 1
  pub register_01 : assembled "MOV R01, R0\n" ≡ Refuses check.Line 1
  pub high_in_low : assembled "AND R8, R0\n" ≡ Refuses check.Line 1
  pub no_note : assembled "HALT\n" ≡ Refuses check.Line 1
  pub no_offset : assembled "ADD R0, PC\n" ≡ Refuses check.Line 1
  pub no_offset_either : assembled "LDR R0, [R1]\n" ≡ Refuses check.Line 1
  pub pc_elsewhere : assembled "MOV R0, PC\n" ≡ Refuses check.Line 1
  -- PC is the word for it: R15 is no word for PC
  pub pc_as_R15 : assembled "ADD R0, R15, #4\n" ≡ Refuses check.Line 1
  pub zeros : assembled "HALT #00\n" ≡ Refuses check.Line 1
  pub leading_zero : assembled "HALT #07\n" ≡ Refuses check.Line 1
  pub signed : assembled "HALT #-1\n" ≡ Refuses check.Line 1
  pub no_condition : assembled "a:\nBAL a\n" ≡ Refuses check.Line 2
  -- 21 is put to all lines before anything else
  pub before_all : assembled "HALT #256\nb:\nb:\nhalt #7\n" ≡ Refuses check.Line 4

-- 15, 22, 23 and 16
pub record Orders : Type 0 where
  pub empty_text : assembled "" ≡ Refuses check.CodeLength 0
  pub no_instruction : assembled "a:\na:\n" ≡ Refuses check.CodeLength 0
  pub twice : assembled "a:\na:\nHALT #0\n" ≡ Refuses check.Label 2
  pub missing : assembled "BEQ b\nHALT #0\n" ≡ Refuses check.Label 1
  -- 22 and 23 come line by line
  pub value_first : assembled "HALT #256\nb:\nb:\n" ≡ Refuses check.Value 1
  pub label_first : assembled "b:\nb:\nHALT #256\n" ≡ Refuses check.Label 2
  -- 16 comes last, and a label takes no room; room to spare is good
  pub short : assemble_of (quoted "HALT #7\nHALT #8\n") 1 ≡ Refuses check.OutputLength 0
  pub short_last : assemble_of (quoted "HALT #7\nHALT #256\n") 1 ≡ Refuses check.Value 2
  pub exact : assemble_of (quoted "a:\nHALT #7\nb:\n") 1 ≡ Assembles (0x0007 ∷ [])

-- 23: each field's last value, and the first that doesn't fit
pub record Limits : Type 0 where
  pub zero : assembled "HALT #0\n" ≡ Assembles (0x0000 ∷ [])
  pub note : assembled "HALT #255\n" ≡ Assembles (0x00FF ∷ [])
  pub note_past : assembled "HALT #256\n" ≡ Refuses check.Value 1
  pub move : assembled "MOV R7, #255\n" ≡ Assembles (0x27FF ∷ [])
  pub move_past : assembled "MOV R7, #256\n" ≡ Refuses check.Value 1
  pub compare : assembled "CMP R7, #255\n" ≡ Assembles (0x2FFF ∷ [])
  pub compare_past : assembled "CMP R7, #256\n" ≡ Refuses check.Value 1
  pub word : assembled "LDR R0, [R1, #124]\n" ≡ Assembles (0x6FC8 ∷ [])
  pub word_past : assembled "LDR R0, [R1, #128]\n" ≡ Refuses check.Value 1
  pub word_between : assembled "LDR R0, [R1, #6]\n" ≡ Refuses check.Value 1
  pub byte : assembled "STRB R0, [R1, #31]\n" ≡ Assembles (0x77C8 ∷ [])
  pub byte_past : assembled "STRB R0, [R1, #32]\n" ≡ Refuses check.Value 1
  pub pc : assembled "ADD R0, PC, #1020\n" ≡ Assembles (0xA0FF ∷ [])
  pub pc_past : assembled "ADD R0, PC, #1024\n" ≡ Refuses check.Value 1
  pub pc_between : assembled "ADD R0, PC, #1018\n" ≡ Refuses check.Value 1
  -- a number never comes round, however long it is
  pub wrapping : assembled "MOV R0, #65536\n" ≡ Refuses check.Value 1
  pub long : assembled "MOV R0, #18446744073709551616\n" ≡ Refuses check.Value 1
  pub longer : assembled "HALT #100000000000000000000000000000\n" ≡ Refuses check.Value 1
  -- 256 bytes back and 254 on, to the label's first definition
  pub back : assemble_of (quoted "a:\n" ++ (halts 128 ++ quoted "BEQ a\n")) 200
      ≡ Assembles (replicate 128 0 ++ (0xD080 ∷ []))
  pub back_past : assemble_of (quoted "a:\n" ++ (halts 129 ++ quoted "BEQ a\n")) 200 ≡ Refuses check.Value 131
  pub on : assemble_of (quoted "BEQ a\n" ++ (halts 126 ++ quoted "a:\n")) 200
      ≡ Assembles (0xD07F ∷ replicate 126 0)
  pub on_past : assemble_of (quoted "BEQ a\n" ++ (halts 127 ++ quoted "a:\n")) 200 ≡ Refuses check.Value 1

pub record Listings : Type 0 where
  pub loop : listed (0x2005 ∷ 0xD0FF ∷ 0x0007 ∷ []) ≡ Lists (quoted "a0:\nMOV R0, #5\nBEQ a0\nHALT #7\n")
  -- a label is its address in bytes, and stands once, however many branches go there
  pub ahead : listed (0xD005 ∷ 0xD104 ∷ 0 ∷ 0 ∷ 0 ∷ 1 ∷ [])
      ≡ Lists (quoted "BEQ a10\nBNE a10\nHALT #0\nHALT #0\nHALT #0\na10:\nHALT #1\n")
  -- ADD Rd, PC says an address too, and gets no label
  pub no_label : listed (0xA001 ∷ 0x6041 ∷ 0x0000 ∷ []) ≡ Lists (quoted "ADD R0, PC, #4\nSTR R1, [R0, #4]\nHALT #0\n")
  pub high_registers : listed (0x44C7 ∷ 0x4540 ∷ 0x4178 ∷ 0 ∷ [])
      ≡ Lists (quoted "ADD R15, R8\nCMP R0, R8\nCMP R0, R7\nHALT #0\n")
  pub empty : listed [] ≡ List.Refuses (refusal check.CodeLength)
  -- 9 and 13 come instruction by instruction, 16 last
  pub undefined : listed (0x0000 ∷ 0x0100 ∷ []) ≡ List.Refuses (refusal_at check.Defined (record { 0 = 2 }))
  pub outside : listed (0xD0FF ∷ 0x0100 ∷ []) ≡ List.Refuses (refusal_at check.Target (record { 0 = 0 }))
  pub behind : listed (0xDD01 ∷ []) ≡ List.Refuses (refusal_at check.Target (record { 0 = 0 }))
  pub short : list_of (7 ∷ []) 7 ≡ List.Refuses (refusal check.OutputLength)
  pub exact : list_of (7 ∷ []) 8 ≡ Lists (quoted "HALT #7\n")
  pub undefined_first : list_of (0x0100 ∷ []) 0 ≡ List.Refuses (refusal_at check.Defined (record { 0 = 0 }))

pub record Examples : Type 0 where
  pub lines : Lines
  pub no_lines : NoLines
  pub orders : Orders
  pub limits : Limits
  pub listings : Listings
