-- What the rows of the bench cases have to be, in plain numbers.
use Rattle.std.specs.Prelude.{ℕ, List, [], ◌∷◌, replicate}
use Rattle.answers.specs.Answers.{accepted}
use Rattle.stars.specs.Rows.{Row, words_only}

-- 0 in every cell of side 2
abbrev pub all_zero : List ℕ
all_zero = replicate 16 0

abbrev pub expected : List Row
expected =
    -- Side 1, one cell marked: moved 0 and 0, two swaps, no electronic move
    record {
      answer = accepted 0 2;
      codes = 0 ∷ 0 ∷ [];
      moved = 0 ∷ 0 ∷ [];
      states =
          record {
            words = 100 ∷ [];
            marks = 1 ∷ [];
            aims = 0 ∷ [];
            spare_words = 0 ∷ [];
            spare_marks = 0 ∷ [];
            spare_aims = 0 ∷ [];
          } ∷
          record {
            words = 100 ∷ [];
            marks = 1 ∷ [];
            aims = 0 ∷ [];
            spare_words = 0 ∷ [];
            spare_marks = 0 ∷ [];
            spare_aims = 0 ∷ [];
          } ∷
          [];
    } ∷
    -- Side 2, marks at 0, 4, 5: after move 1 cell 5 holds rank 1 in front and rank 2 spare. At the end cells 0, 1, 2
    record {
      answer = accepted 7 2;
      codes = 1 ∷ 2 ∷ 3 ∷ 4 ∷ 0 ∷ 1 ∷ 2 ∷ 3 ∷ 0 ∷ [];
      moved = 1 ∷ 1 ∷ 0 ∷ 1 ∷ 1 ∷ 0 ∷ 2 ∷ 0 ∷ 2 ∷ [];
      states =
          record {
            words = 100 ∷ 0 ∷ 0 ∷ 0 ∷ 0 ∷ 104 ∷ 0 ∷ 0 ∷ 0 ∷ 0 ∷ 0 ∷ 0 ∷ 0 ∷ 0 ∷ 0 ∷ 0 ∷ [];
            marks = 1 ∷ 0 ∷ 0 ∷ 0 ∷ 0 ∷ 1 ∷ 0 ∷ 0 ∷ 0 ∷ 0 ∷ 0 ∷ 0 ∷ 0 ∷ 0 ∷ 0 ∷ 0 ∷ [];
            aims = 0 ∷ 0 ∷ 0 ∷ 0 ∷ 0 ∷ 1 ∷ 0 ∷ 0 ∷ 0 ∷ 0 ∷ 0 ∷ 0 ∷ 0 ∷ 0 ∷ 0 ∷ 0 ∷ [];
            spare_words = 0 ∷ 0 ∷ 0 ∷ 0 ∷ 0 ∷ 105 ∷ 0 ∷ 0 ∷ 0 ∷ 0 ∷ 0 ∷ 0 ∷ 0 ∷ 0 ∷ 0 ∷ 0 ∷ [];
            spare_marks = 0 ∷ 0 ∷ 0 ∷ 0 ∷ 0 ∷ 1 ∷ 0 ∷ 0 ∷ 0 ∷ 0 ∷ 0 ∷ 0 ∷ 0 ∷ 0 ∷ 0 ∷ 0 ∷ [];
            spare_aims = 0 ∷ 0 ∷ 0 ∷ 0 ∷ 0 ∷ 2 ∷ 0 ∷ 0 ∷ 0 ∷ 0 ∷ 0 ∷ 0 ∷ 0 ∷ 0 ∷ 0 ∷ 0 ∷ [];
          } ∷
          record {
            words = 100 ∷ 104 ∷ 105 ∷ 0 ∷ 0 ∷ 0 ∷ 0 ∷ 0 ∷ 0 ∷ 0 ∷ 0 ∷ 0 ∷ 0 ∷ 0 ∷ 0 ∷ 0 ∷ [];
            marks = 1 ∷ 1 ∷ 1 ∷ 0 ∷ 0 ∷ 0 ∷ 0 ∷ 0 ∷ 0 ∷ 0 ∷ 0 ∷ 0 ∷ 0 ∷ 0 ∷ 0 ∷ 0 ∷ [];
            aims = 0 ∷ 1 ∷ 2 ∷ 0 ∷ 0 ∷ 0 ∷ 0 ∷ 0 ∷ 0 ∷ 0 ∷ 0 ∷ 0 ∷ 0 ∷ 0 ∷ 0 ∷ 0 ∷ [];
            spare_words = all_zero;
            spare_marks = all_zero;
            spare_aims = all_zero;
          } ∷
          [];
    } ∷
    -- The job of the scope: the nine moved counts
    record {
      answer = accepted 7 2;
      codes = 1 ∷ 2 ∷ 3 ∷ 4 ∷ 0 ∷ 1 ∷ 2 ∷ 3 ∷ 0 ∷ [];
      moved = 1 ∷ 2 ∷ 1 ∷ 0 ∷ 0 ∷ 0 ∷ 1 ∷ 1 ∷ 2 ∷ [];
      states =
          record {
            words = 0 ∷ 70 ∷ 0 ∷ 0 ∷ 0 ∷ 0 ∷ 0 ∷ 71 ∷ 0 ∷ 0 ∷ 0 ∷ 72 ∷ 0 ∷ 0 ∷ 0 ∷ 0 ∷ [];
            marks = 0 ∷ 1 ∷ 0 ∷ 0 ∷ 0 ∷ 0 ∷ 0 ∷ 1 ∷ 0 ∷ 0 ∷ 0 ∷ 1 ∷ 0 ∷ 0 ∷ 0 ∷ 0 ∷ [];
            aims = 0 ∷ 0 ∷ 0 ∷ 0 ∷ 0 ∷ 0 ∷ 0 ∷ 1 ∷ 0 ∷ 0 ∷ 0 ∷ 2 ∷ 0 ∷ 0 ∷ 0 ∷ 0 ∷ [];
            spare_words = all_zero;
            spare_marks = all_zero;
            spare_aims = all_zero;
          } ∷
          record {
            words = 70 ∷ 71 ∷ 72 ∷ 0 ∷ 0 ∷ 0 ∷ 0 ∷ 0 ∷ 0 ∷ 0 ∷ 0 ∷ 0 ∷ 0 ∷ 0 ∷ 0 ∷ 0 ∷ [];
            marks = 1 ∷ 1 ∷ 1 ∷ 0 ∷ 0 ∷ 0 ∷ 0 ∷ 0 ∷ 0 ∷ 0 ∷ 0 ∷ 0 ∷ 0 ∷ 0 ∷ 0 ∷ 0 ∷ [];
            aims = 0 ∷ 1 ∷ 2 ∷ 0 ∷ 0 ∷ 0 ∷ 0 ∷ 0 ∷ 0 ∷ 0 ∷ 0 ∷ 0 ∷ 0 ∷ 0 ∷ 0 ∷ 0 ∷ [];
            spare_words = all_zero;
            spare_marks = all_zero;
            spare_aims = all_zero;
          } ∷
          [];
    } ∷
    -- Distribute, side 2, cells 0, 1, 2 aimed at 1, 6, 11: moved 2, 1, 1, 0, 0, 0, 1, 2, 1
    record {
      answer = accepted 7 2;
      codes = 0 ∷ 4 ∷ 1 ∷ 2 ∷ 0 ∷ 3 ∷ 4 ∷ 1 ∷ 2 ∷ [];
      moved = 2 ∷ 1 ∷ 1 ∷ 0 ∷ 0 ∷ 0 ∷ 1 ∷ 2 ∷ 1 ∷ [];
      states =
          record {
            words = 100 ∷ 0 ∷ 0 ∷ 0 ∷ 101 ∷ 0 ∷ 0 ∷ 0 ∷ 102 ∷ 0 ∷ 0 ∷ 0 ∷ 0 ∷ 0 ∷ 0 ∷ 0 ∷ [];
            marks = 1 ∷ 0 ∷ 0 ∷ 0 ∷ 1 ∷ 0 ∷ 0 ∷ 0 ∷ 1 ∷ 0 ∷ 0 ∷ 0 ∷ 0 ∷ 0 ∷ 0 ∷ 0 ∷ [];
            aims = 1 ∷ 0 ∷ 0 ∷ 0 ∷ 6 ∷ 0 ∷ 0 ∷ 0 ∷ 11 ∷ 0 ∷ 0 ∷ 0 ∷ 0 ∷ 0 ∷ 0 ∷ 0 ∷ [];
            spare_words = all_zero;
            spare_marks = all_zero;
            spare_aims = all_zero;
          } ∷
          record {
            words = 0 ∷ 100 ∷ 0 ∷ 0 ∷ 0 ∷ 0 ∷ 101 ∷ 0 ∷ 0 ∷ 0 ∷ 0 ∷ 102 ∷ 0 ∷ 0 ∷ 0 ∷ 0 ∷ [];
            marks = 0 ∷ 1 ∷ 0 ∷ 0 ∷ 0 ∷ 0 ∷ 1 ∷ 0 ∷ 0 ∷ 0 ∷ 0 ∷ 1 ∷ 0 ∷ 0 ∷ 0 ∷ 0 ∷ [];
            aims = 0 ∷ 1 ∷ 0 ∷ 0 ∷ 0 ∷ 0 ∷ 6 ∷ 0 ∷ 0 ∷ 0 ∷ 0 ∷ 11 ∷ 0 ∷ 0 ∷ 0 ∷ 0 ∷ [];
            spare_words = all_zero;
            spare_marks = all_zero;
            spare_aims = all_zero;
          } ∷
          [];
    } ∷
    -- Side 2, all 16 marked: each swap moves 12, no electronic move moves any
    record {
      answer = accepted 7 2;
      codes = 1 ∷ 2 ∷ 3 ∷ 4 ∷ 0 ∷ 1 ∷ 2 ∷ 3 ∷ 0 ∷ [];
      moved = 0 ∷ 0 ∷ 0 ∷ 0 ∷ 12 ∷ 0 ∷ 0 ∷ 0 ∷ 12 ∷ [];
      states =
          record {
            words = 100 ∷ 101 ∷ 102 ∷ 103 ∷ 104 ∷ 105 ∷ 106 ∷ 107 ∷ 108 ∷ 109 ∷ 110 ∷ 111 ∷ 112 ∷ 113 ∷ 114 ∷ 115 ∷ [];
            marks = 1 ∷ 1 ∷ 1 ∷ 1 ∷ 1 ∷ 1 ∷ 1 ∷ 1 ∷ 1 ∷ 1 ∷ 1 ∷ 1 ∷ 1 ∷ 1 ∷ 1 ∷ 1 ∷ [];
            aims = 0 ∷ 1 ∷ 2 ∷ 3 ∷ 4 ∷ 5 ∷ 6 ∷ 7 ∷ 8 ∷ 9 ∷ 10 ∷ 11 ∷ 12 ∷ 13 ∷ 14 ∷ 15 ∷ [];
            spare_words = all_zero;
            spare_marks = all_zero;
            spare_aims = all_zero;
          } ∷
          record {
            words = 100 ∷ 101 ∷ 102 ∷ 103 ∷ 104 ∷ 105 ∷ 106 ∷ 107 ∷ 108 ∷ 109 ∷ 110 ∷ 111 ∷ 112 ∷ 113 ∷ 114 ∷ 115 ∷ [];
            marks = 1 ∷ 1 ∷ 1 ∷ 1 ∷ 1 ∷ 1 ∷ 1 ∷ 1 ∷ 1 ∷ 1 ∷ 1 ∷ 1 ∷ 1 ∷ 1 ∷ 1 ∷ 1 ∷ [];
            aims = 0 ∷ 1 ∷ 2 ∷ 3 ∷ 4 ∷ 5 ∷ 6 ∷ 7 ∷ 8 ∷ 9 ∷ 10 ∷ 11 ∷ 12 ∷ 13 ∷ 14 ∷ 15 ∷ [];
            spare_words = all_zero;
            spare_marks = all_zero;
            spare_aims = all_zero;
          } ∷
          [];
    } ∷
    -- Side 2, none marked: all lanes 0, nine moves, moved 0
    record {
      answer = accepted 7 2;
      codes = 1 ∷ 2 ∷ 3 ∷ 4 ∷ 0 ∷ 1 ∷ 2 ∷ 3 ∷ 0 ∷ [];
      moved = 0 ∷ 0 ∷ 0 ∷ 0 ∷ 0 ∷ 0 ∷ 0 ∷ 0 ∷ 0 ∷ [];
      states =
          record {
            words = all_zero;
            marks = all_zero;
            aims = all_zero;
            spare_words = all_zero;
            spare_marks = all_zero;
            spare_aims = all_zero;
          } ∷
          record {
            words = all_zero;
            marks = all_zero;
            aims = all_zero;
            spare_words = all_zero;
            spare_marks = all_zero;
            spare_aims = all_zero;
          } ∷
          [];
    } ∷
    -- Side 2, words 4294967295, 2, then 0: prefix sums 4294967295, then 1 everywhere
    record {
      answer = accepted 7 2;
      codes = 1 ∷ 4 ∷ 0 ∷ 1 ∷ 4 ∷ 2 ∷ 0 ∷ 3 ∷ 2 ∷ [];
      moved = [];
      states =
          words_only (4294967295 ∷ 1 ∷ 1 ∷ 1 ∷ 1 ∷ 1 ∷ 1 ∷ 1 ∷ 1 ∷ 1 ∷ 1 ∷ 1 ∷ 1 ∷ 1 ∷ 1 ∷ 1 ∷ []) ∷ [];
    } ∷
    -- The same words: data sum 1
    record {
      answer = accepted 8 1;
      codes = 1 ∷ 2 ∷ 4 ∷ 3 ∷ 0 ∷ 1 ∷ 2 ∷ 4 ∷ 3 ∷ [];
      moved = [];
      states =
          words_only (1 ∷ 1 ∷ 1 ∷ 1 ∷ 1 ∷ 1 ∷ 1 ∷ 1 ∷ 1 ∷ 1 ∷ 1 ∷ 1 ∷ 1 ∷ 1 ∷ 1 ∷ 1 ∷ []) ∷ [];
    } ∷
    -- Side 2, word I in cell I: mesh row shift by 1, zero fill, gives 0, 0, 0, 2, 0, 4 in cells 0 to 5
    record {
      answer = accepted 1 0;
      codes = 1 ∷ [];
      moved = [];
      states =
          words_only (0 ∷ 0 ∷ 0 ∷ 2 ∷ 0 ∷ 4 ∷ 0 ∷ 6 ∷ 0 ∷ 8 ∷ 0 ∷ 10 ∷ 0 ∷ 12 ∷ 0 ∷ 14 ∷ []) ∷ [];
    } ∷
    -- The same words, group column circular shift by 1: cell 0 holds 8; two electronic moves, two swaps
    record {
      answer = accepted 2 2;
      codes = 0 ∷ 4 ∷ 3 ∷ 0 ∷ [];
      moved = [];
      states =
          words_only (8 ∷ 9 ∷ 10 ∷ 11 ∷ 12 ∷ 13 ∷ 14 ∷ 15 ∷ 0 ∷ 1 ∷ 2 ∷ 3 ∷ 4 ∷ 5 ∷ 6 ∷ 7 ∷ []) ∷ [];
    } ∷
    []
