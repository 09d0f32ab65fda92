-- Document 02, M-104: lanes never influence placement. The claims stand in Claims; proofs/ has their proofs: `same_lists` and `same_runs`
-- (Lists) and `same_jobs` (Jobs).
pub mod Claims
pub mod Worked
