-- Every example by computing.
use mathlib.Core.Path.{refl}
use Rattle.image.specs.Check.{first_no, rows_below}
use Rattle.targets.specs.Targets.{decoded_at, goes_to, targeted_below, targeted}
use Rattle.text.specs.Text.{word, after_word, digits_after, is_number, number_of, is_name, name_of, lines_of}
use Rattle.syntax.specs.Syntax.{number_value, register_value, condition_value, name_value, slot_value, values_of}
use Rattle.syntax.specs.Syntax.{parse_from}
use Rattle.syntax.specs.Syntax.{parse, slot_word, fill}
use Rattle.assembler.specs.Assemble.{read_from, definition_from, said_at, check_from, assemble_of}
use Rattle.lister.specs.List.{lines_at, listing_below, list_of}
use Rattle.text_laws.specs.Examples.{Lines, NoLines, Orders, Limits, Listings, Examples}

lines : Lines
unfolding word after_word digits_after is_number number_of is_name name_of lines_of number_value register_value
    condition_value name_value slot_value values_of parse_from parse read_from definition_from said_at check_from
    assemble_of
lines =
    record {
      add_pc = refl;
      store = refl;
      halt = refl;
      branch = refl;
      compare_low = refl;
      compare_high = refl;
      add_low = refl;
      move_low = refl;
      behind = refl;
      several = refl;
      long_name = refl;
    }

no_lines : NoLines
unfolding word after_word digits_after is_number number_of is_name name_of lines_of number_value register_value
    condition_value name_value slot_value values_of parse_from parse read_from definition_from said_at check_from
    assemble_of
no_lines =
    record {
      no_feed = refl;
      last_no_feed = refl;
      empty_line = refl;
      space_more = refl;
      space_less = refl;
      space_before = refl;
      space_behind = refl;
      tab = refl;
      carriage_return = refl;
      high_byte = refl;
      small_letters = refl;
      capital_label = refl;
      digit_label = refl;
      nine_label = refl;
      no_label = refl;
      label_and_more = refl;
      register_16 = refl;
      register_01 = refl;
      high_in_low = refl;
      no_note = refl;
      no_offset = refl;
      no_offset_either = refl;
      pc_elsewhere = refl;
      pc_as_R15 = refl;
      zeros = refl;
      leading_zero = refl;
      signed = refl;
      no_condition = refl;
      before_all = refl;
    }

orders : Orders
unfolding word after_word digits_after is_number number_of is_name name_of lines_of number_value register_value
    condition_value name_value slot_value values_of parse_from parse read_from definition_from said_at check_from
    assemble_of
orders =
    record {
      empty_text = refl;
      no_instruction = refl;
      twice = refl;
      missing = refl;
      value_first = refl;
      label_first = refl;
      short = refl;
      short_last = refl;
      exact = refl;
    }

limits : Limits
unfolding word after_word digits_after is_number number_of is_name name_of lines_of number_value register_value
    condition_value name_value slot_value values_of parse_from parse read_from definition_from said_at check_from
    assemble_of
limits =
    record {
      zero = refl;
      note = refl;
      note_past = refl;
      move = refl;
      move_past = refl;
      compare = refl;
      compare_past = refl;
      word = refl;
      word_past = refl;
      word_between = refl;
      byte = refl;
      byte_past = refl;
      pc = refl;
      pc_past = refl;
      pc_between = refl;
      wrapping = refl;
      long = refl;
      longer = refl;
      back = refl;
      back_past = refl;
      on = refl;
      on_past = refl;
    }

listings : Listings
unfolding first_no rows_below decoded_at goes_to targeted_below targeted slot_word fill lines_at listing_below list_of
listings =
    record {
      loop = refl;
      ahead = refl;
      no_label = refl;
      high_registers = refl;
      empty = refl;
      undefined = refl;
      outside = refl;
      behind = refl;
      short = refl;
      exact = refl;
      undefined_first = refl;
    }

pub examples : Examples
examples = record { lines = lines; no_lines = no_lines; orders = orders; limits = limits; listings = listings }
