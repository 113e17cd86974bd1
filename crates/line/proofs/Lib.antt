mod Places
mod Changes
