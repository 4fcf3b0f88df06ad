-- Every definition that a run over a tape computes with, as one name for an `unfolding` line.
use Rattle.rules.specs.Lists.{Bool, true, range, every, occ, all_different, same_list, without, among, first_of, place_of, first_absent, sum_of, joined}
use Rattle.rules.specs.Answers.{first, answer}
use Rattle.rules.specs.Records.{in_use, amount, count, sales, handshake, held, filled, made, with_word, block_at, put_block, cut}
use Rattle.rules.specs.Sound.{good_list, fits, shaped, desk_good, bare, line_good, place_good, record_good, parties_good, once_in, money_good, sound_by, sound, empty_book}
use Rattle.rules.specs.Bytes.{word_of, to_words}
use Rattle.rules.specs.Tape.{entry_of, well_formed, in_hall, entry_rules, entries}
use Rattle.rules.specs.Steps.{put_all, joining, dealing, updating, stocking, sold_line, selling, authenticating, settling, clearing, changes, effect}
use Rattle.rules.specs.Verdicts.{table, verdict, second, step, steps, one_each, run}
use Rattle.rules.specs.Slips.{open_slip, open_slips, slip_tokens, opened_line, open_lines, open_book, slip_sum, slips_good, slip_line_good, is_run, slip_by, slip_sound, slip_of, slip_pairs}
use Rattle.rules.specs.Listing.{digits, spaced, step_line, step_lines, cut_line, party_line, customer_line, bench_line, accounts}
use Rattle.rules.specs.Walk.{list_good, walk}

unfoldable pub all : Bool
unfolding range every occ all_different same_list without among first_of place_of first_absent sum_of joined first answer in_use amount count sales handshake held filled made with_word block_at put_block cut good_list fits shaped desk_good bare line_good place_good record_good parties_good once_in money_good sound_by sound empty_book word_of to_words entry_of well_formed in_hall entry_rules entries put_all joining dealing updating stocking sold_line selling authenticating settling clearing changes effect table verdict second step steps one_each run open_slip open_slips slip_tokens opened_line open_lines open_book slip_sum slips_good slip_line_good is_run slip_by slip_sound slip_of slip_pairs digits spaced step_line step_lines cut_line party_line customer_line bench_line accounts list_good walk
all = true
