-- A worked job at the definitions: its text and the scan of it, the numbers of refused texts, and an answer.
use mathlib.Core.Path.{◌≡◌, refl}
use mathlib.Core.List.{List, [], ◌∷◌, ◌++◌}
use Prim.Native.Nat.{ℕ, ◌*◌}
use lib.ListN.{replicate}
use Rattle.buffers.specs.Refusals.{first_fitting}
use Rattle.jobs.specs.declared.Op.TheVariants.{Gate, Cz, Measure, Complement}
use Rattle.jobs.specs.declared.Step.{Step}
use Rattle.text.specs.Text.{digits, hex_digit, hex_text, decimal, qubit_line, qubit_lines, record_text}
use Rattle.jobs.specs.JobLines.{job_lines}
use Rattle.words.specs.Bits.{bit}
use Rattle.jobs.specs.Results.{Result, result_line, result_lines, job_answer}
use Rattle.jobs.specs.Text.{op_word, step_text, steps_text, qubits_line, step_names, job_head}
use Rattle.jobs.specs.Text.{job_text}
use Rattle.text.specs.internal.Feeding.{fed_bytes}
use Rattle.jobs.specs.internal.Scan.{digit_value, first_op, first_step, head_step, more_step, op_for, Reading, word_step}
use Rattle.jobs.specs.internal.Scan.{one_more, scan_byte, begin, as_reading, feed, fed, verdict}
use Rattle.operations.specs.Used.{used_record}

-- a gate, a CZ and a measurement; the form allows every number of at most three digits
steps : List Step
steps =
    record { op = Gate; a = 0; b = 0; value = 8 }
    ∷ record { op = Cz; a = 0; b = 12; value = 0 }
    ∷ record { op = Measure; a = 12; b = 0; value = 105 }
    ∷ []

abbrev head : List ℕ → List ℕ
head n = qubits_line ++ n ++ 10 ∷ step_names

abbrev input : List ℕ
input =
    head (49 ∷ 54 ∷ [])
    ++ 103 ∷ 97 ∷ 116 ∷ 101 ∷ 32 ∷ 48 ∷ 32 ∷ 48 ∷ 32 ∷ 56 ∷ 10
    ∷ 99 ∷ 122 ∷ 32 ∷ 48 ∷ 32 ∷ 49 ∷ 50 ∷ 32 ∷ 48 ∷ 10
    ∷ 109 ∷ 101 ∷ 97 ∷ 115 ∷ 117 ∷ 114 ∷ 101 ∷ 32 ∷ 49 ∷ 50 ∷ 32 ∷ 48 ∷ 32 ∷ 49 ∷ 48 ∷ 53 ∷ 10 ∷ []

input-text : job_text 16 steps ≡ input
unfolding steps digits op_word step_text steps_text job_head job_text
input-text = refl

-- the reading of a text, from an array of four places
reading_of : List ℕ → Reading
reading_of t = fed (as_reading begin (replicate 4 (record { op = Complement; a = 7; b = 7; value = 7 }))) t

input-read : (reading_of input).steps ≡ steps ++ record { op = Complement; a = 7; b = 7; value = 7 } ∷ []
unfolding steps reading_of fed_bytes feed scan_byte begin head_step first_op op_for word_step digit_value first_step
    more_step one_more
input-read = refl

number : List ℕ → ℕ
unfolding reading_of
number t = verdict (reading_of t).scan

-- "No steps is a job"; n of 0, 65 and 999 is 2; `02` and `1000` are no fields
numbers :
    number input ∷ number (head (49 ∷ [])) ∷ number (head (48 ∷ [])) ∷ number (head (54 ∷ 53 ∷ []))
    ∷ number (head (57 ∷ 57 ∷ 57 ∷ [])) ∷ number (head (48 ∷ 50 ∷ []))
    ∷ number (head (49 ∷ 48 ∷ 48 ∷ 48 ∷ [])) ∷ number [] ∷ []
    ≡ 0 ∷ 0 ∷ 2 ∷ 2 ∷ 2 ∷ 1 ∷ 1 ∷ 1 ∷ []
unfolding number reading_of fed_bytes feed scan_byte begin head_step first_op op_for word_step digit_value first_step
    more_step one_more
    verdict first_fitting
numbers = refl

-- a line without its newline, one more byte, two spaces, a carriage return, an operation of no such name
malformed :
    number (head (49 ∷ []) ++ 99 ∷ 122 ∷ 32 ∷ 48 ∷ 32 ∷ 49 ∷ 32 ∷ 48 ∷ [])
    ∷ number (head (49 ∷ []) ++ 10 ∷ [])
    ∷ number (head (49 ∷ []) ++ 99 ∷ 122 ∷ 32 ∷ 32 ∷ 48 ∷ 32 ∷ 49 ∷ 32 ∷ 48 ∷ 10 ∷ [])
    ∷ number (head (49 ∷ []) ++ 99 ∷ 122 ∷ 32 ∷ 48 ∷ 32 ∷ 49 ∷ 32 ∷ 48 ∷ 13 ∷ 10 ∷ [])
    ∷ number (head (49 ∷ []) ++ 99 ∷ 110 ∷ 32 ∷ 48 ∷ 32 ∷ 49 ∷ 32 ∷ 48 ∷ 10 ∷ [])
    ∷ []
    ≡ 1 ∷ 1 ∷ 1 ∷ 1 ∷ 1 ∷ []
unfolding number reading_of fed_bytes feed scan_byte begin head_step first_op op_for word_step digit_value first_step
    more_step one_more
    verdict first_fitting
malformed = refl

-- 15 stands before 2
many : first_fitting (job_lines 0 4097) ∷ first_fitting (job_lines 0 4096) ∷ first_fitting (job_lines 64 4096) ∷ []
    ≡ 15 ∷ 2 ∷ 0 ∷ []
unfolding first_fitting
many = refl

-- "0 0 0 0", "1 14 0 0", and a record of one qubit, which is used
results : ℕ → Result
results k = record { refusal = 14 * k; outcome = 0; determined = 0 }

answer : job_answer 2 results (used_record 1 (0 ∷ []) (8 ∷ []) 1)
    ≡ 115 ∷ 116 ∷ 101 ∷ 112 ∷ 32 ∷ 114 ∷ 101 ∷ 102 ∷ 117 ∷ 115 ∷ 97 ∷ 108 ∷ 32
    ∷ 111 ∷ 117 ∷ 116 ∷ 99 ∷ 111 ∷ 109 ∷ 101 ∷ 32
    ∷ 100 ∷ 101 ∷ 116 ∷ 101 ∷ 114 ∷ 109 ∷ 105 ∷ 110 ∷ 101 ∷ 100 ∷ 10
    ∷ 48 ∷ 32 ∷ 48 ∷ 32 ∷ 48 ∷ 32 ∷ 48 ∷ 10
    ∷ 49 ∷ 32 ∷ 49 ∷ 52 ∷ 32 ∷ 48 ∷ 32 ∷ 48 ∷ 10
    ∷ 113 ∷ 117 ∷ 98 ∷ 105 ∷ 116 ∷ 32 ∷ 99 ∷ 111 ∷ 100 ∷ 101 ∷ 32
    ∷ 110 ∷ 101 ∷ 105 ∷ 103 ∷ 104 ∷ 98 ∷ 111 ∷ 117 ∷ 114 ∷ 115 ∷ 32 ∷ 117 ∷ 115 ∷ 101 ∷ 100 ∷ 10
    ∷ 48 ∷ 32 ∷ 56 ∷ 32 ∷ replicate 16 48 ++ 32 ∷ 49 ∷ 10 ∷ []
unfolding bit results digits result_line result_lines job_answer hex_digit hex_text decimal qubit_line qubit_lines
    record_text
answer = refl

-- the last step's number
last_step : digits 4 4095 ≡ 52 ∷ 48 ∷ 57 ∷ 53 ∷ []
unfolding digits
last_step = refl
